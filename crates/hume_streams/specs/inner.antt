pub mod Newlines
pub mod Buffers
pub mod Steps
