pub mod States
pub mod Tasks
pub mod results
