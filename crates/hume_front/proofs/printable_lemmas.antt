pub mod Printable
pub mod NamedTokens
pub mod NamedConstructors
