pub mod Bytes
pub mod Names
pub mod Layout
pub mod Memory
pub mod Frames
pub mod Calls
pub mod Table
pub mod inner
