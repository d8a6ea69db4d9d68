pub mod Refused
pub mod inner
pub mod nodes
