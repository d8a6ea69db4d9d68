pub mod Acts
pub mod Ends
pub mod Early
pub mod Rounds
pub mod Places
