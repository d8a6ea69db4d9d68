pub mod Words
pub mod Texts
pub mod Owed
pub mod Headline
pub mod inner
