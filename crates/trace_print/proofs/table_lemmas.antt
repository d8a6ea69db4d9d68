pub mod Sums
pub mod Bounds
pub mod Parts
pub mod Lines
