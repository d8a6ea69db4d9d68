pub mod Declarations
pub mod Gathered
pub mod inner
pub mod Shapes
pub mod Widths
