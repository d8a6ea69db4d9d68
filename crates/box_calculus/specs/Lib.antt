pub mod inner
pub mod Lines
pub mod Scripts
pub mod Kept
