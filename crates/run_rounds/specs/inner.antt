pub mod Reading
pub mod Beginning
pub mod Standing
pub mod Clearing
pub mod Steps
pub mod Rounding
