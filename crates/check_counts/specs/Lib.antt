pub mod Counted
pub mod CountRules
pub mod inner
pub mod Limits
pub mod Miscounts
pub mod Stars
