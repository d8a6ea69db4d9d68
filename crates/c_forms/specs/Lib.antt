pub mod Expressions
pub mod Gives
pub mod inner
pub mod Items
pub mod Mentions
pub mod Same
pub mod Statements
