pub mod Uses
pub mod Kept
pub mod inner
