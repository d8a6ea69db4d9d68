pub mod Broken
pub mod Accepted
pub mod Errors
pub mod inner
pub mod programs
pub mod printable
