pub mod Gathered
pub mod Words
pub mod Steps
pub mod Meant
pub mod Existing
