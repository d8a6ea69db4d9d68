pub mod Members
pub mod Items
pub mod Ways
pub mod Divisions
pub mod inner
