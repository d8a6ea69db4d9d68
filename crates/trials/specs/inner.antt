pub mod OneNode
pub mod Sources
