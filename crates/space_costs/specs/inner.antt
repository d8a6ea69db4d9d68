pub mod Standing
pub mod Positions
pub mod Parts
