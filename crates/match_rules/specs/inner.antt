pub mod WordTests
pub mod Builders
pub mod Consuming
pub mod Words
