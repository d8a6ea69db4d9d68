pub mod Spaces
pub mod Alternatives
pub mod KnownTables
pub mod Indexed
pub mod NameNodes
