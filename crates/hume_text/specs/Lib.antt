pub mod Chunks
pub mod Spelling
pub mod Printed
pub mod Read
pub mod Names
pub mod Bounds
pub mod inner
