pub mod Programs
pub mod inner
