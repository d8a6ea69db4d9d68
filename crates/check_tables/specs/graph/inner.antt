pub mod Progress
pub mod Search
pub mod Reversed
