pub mod Climbing
pub mod Measures
pub mod Parts
