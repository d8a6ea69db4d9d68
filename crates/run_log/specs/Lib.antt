pub mod Logs
pub mod Nets
pub mod Halves
pub mod Moments
pub mod Faults
pub mod Compared
pub mod inner
