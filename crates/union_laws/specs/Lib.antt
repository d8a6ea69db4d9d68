pub mod Moving
pub mod Union
pub mod Shares
pub mod Room
pub mod inner
