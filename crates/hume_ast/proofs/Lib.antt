pub mod Deepest
pub mod SmallDepths
pub mod Depths
pub mod ProgramDepths
pub mod SpellSteps
