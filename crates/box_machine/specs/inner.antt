pub mod Stepping
pub mod Layers
pub mod Written
pub mod PutOutputs
