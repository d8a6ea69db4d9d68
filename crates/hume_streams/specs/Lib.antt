pub mod Lines
pub mod Good
pub mod Contents
pub mod Queues
pub mod Fills
pub mod Logs
pub mod inner
pub mod places
