pub mod Spelling
pub mod Reading
pub mod BadPlaces
pub mod inner
