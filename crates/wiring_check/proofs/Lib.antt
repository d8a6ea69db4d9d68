pub mod Broken
pub mod FirstWires
pub mod SameTypes
pub mod SlotSteps
pub mod TheWires
pub mod SomeWiring
