pub mod Sources
pub mod inner
