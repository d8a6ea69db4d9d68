pub mod Emitted
pub mod Tests
pub mod Parts
pub mod Patterns
pub mod Entries
pub mod Arms
pub mod ResultArms
pub mod Boxes
