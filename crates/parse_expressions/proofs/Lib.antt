pub mod Sameness
pub mod Loops
pub mod TypeSteps
pub mod PatternSteps
pub mod Climbing
pub mod TreeSteps
pub mod ExpSteps
pub mod ExpLoops
