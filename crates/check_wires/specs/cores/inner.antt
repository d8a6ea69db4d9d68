pub mod FoundEnds
pub mod FoundWires
pub mod NamedNodes
