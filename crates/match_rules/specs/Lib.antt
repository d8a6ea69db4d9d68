pub mod Choosing
pub mod Inputs
pub mod Outputs
pub mod Plain
pub mod inner
