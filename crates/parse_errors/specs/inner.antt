pub mod Gives
pub mod Reported
