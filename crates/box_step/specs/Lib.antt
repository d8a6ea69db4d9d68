pub mod Views
pub mod Steps
pub mod Boxes
pub mod inner
pub mod runs
pub mod nodes
