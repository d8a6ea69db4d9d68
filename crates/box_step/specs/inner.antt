pub mod Buffers
pub mod Firing
pub mod HalfSteps
