pub mod Words
pub mod Expressions
pub mod Statements
pub mod Program
pub mod inner
