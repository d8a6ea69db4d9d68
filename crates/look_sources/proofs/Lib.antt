pub mod Columns
pub mod Growing
pub mod LaterLines
pub mod Walking
