pub mod Sources
pub mod Streams
