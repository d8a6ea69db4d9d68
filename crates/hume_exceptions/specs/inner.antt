pub mod Seen
pub mod Boxes
