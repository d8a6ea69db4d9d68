pub mod Openings
pub mod Sides
pub mod Right
pub mod Beginnings
pub mod Lends
