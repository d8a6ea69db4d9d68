pub mod Held
pub mod Numbers
pub mod Trees
pub mod TreeSteps
pub mod Vars
