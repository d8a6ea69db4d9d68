pub mod Matched
pub mod Sets
pub mod inner
