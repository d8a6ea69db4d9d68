pub mod OwnActs
pub mod Stretches
pub mod ServedSoFar
pub mod WithRoom
pub mod Causes
