pub mod SmallKinds
pub mod Names
pub mod Lengths
