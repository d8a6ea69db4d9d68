pub mod Printers
pub mod Tokens
pub mod Readers
