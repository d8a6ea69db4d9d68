pub mod Made
pub mod Patterns
pub mod Expressions
pub mod inner
