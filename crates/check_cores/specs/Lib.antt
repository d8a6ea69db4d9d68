pub mod Stacks
pub mod results
