pub mod Steps
pub mod Marks
pub mod Parts
pub mod Needed
