pub mod Phases
pub mod TreesOr
pub mod Assembling
pub mod Slots
pub mod TypedCores
pub mod CoreTyped
pub mod fine_lemmas
pub mod nodes_lemmas
