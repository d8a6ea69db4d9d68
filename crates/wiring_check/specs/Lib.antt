pub mod Wires
pub mod inner
