pub mod Equations
pub mod Functions
