pub mod Known
pub mod Written
pub mod inner
pub mod signatures
pub mod types
