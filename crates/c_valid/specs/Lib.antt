pub mod Tests
pub mod Functions
pub mod Streams
pub mod inner
