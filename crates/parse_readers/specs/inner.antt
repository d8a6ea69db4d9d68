pub mod Readers
pub mod Types
pub mod Patterns
pub mod Expressions
pub mod Declarations
pub mod Items
pub mod Programs
