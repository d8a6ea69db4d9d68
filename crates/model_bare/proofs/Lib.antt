pub mod Frames
pub mod SameCores
