pub mod Mistyped
pub mod inner
pub mod functions
pub mod results
pub mod boxes
