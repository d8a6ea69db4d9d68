pub mod types
pub mod first_values
pub mod cores
