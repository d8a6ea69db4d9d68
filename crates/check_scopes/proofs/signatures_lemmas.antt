pub mod Steps
pub mod Lookup
pub mod Numbering
