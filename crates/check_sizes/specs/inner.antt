pub mod Capped
pub mod Large
pub mod Passing
