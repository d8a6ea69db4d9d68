pub mod Written
pub mod Rings
