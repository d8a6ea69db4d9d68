pub mod names
pub mod graph
