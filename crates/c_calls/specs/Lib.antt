pub mod Steps
pub mod Streams
pub mod Hooks
pub mod Exceptions
pub mod Headers
