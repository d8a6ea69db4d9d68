pub mod Raising
pub mod Functions
