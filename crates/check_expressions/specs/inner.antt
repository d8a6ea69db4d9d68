pub mod Open
pub mod Plans
pub mod Shapes
pub mod Written
