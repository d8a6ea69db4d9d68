pub mod Peaks
pub mod Spent
pub mod StepBounds
