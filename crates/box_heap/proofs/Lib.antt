pub mod Sliding
pub mod Objects
pub mod Staying
pub mod Changing
pub mod Outputs
pub mod StandingStill
pub mod FieldChanges
