pub mod Shown
pub mod Declared
pub mod Agreeing
pub mod Written
