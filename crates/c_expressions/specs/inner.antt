pub mod Ways
pub mod Parts
pub mod Fields
