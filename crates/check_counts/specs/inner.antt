pub mod Arms
pub mod Tallies
