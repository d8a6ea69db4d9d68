pub mod Arms
pub mod Nodes
