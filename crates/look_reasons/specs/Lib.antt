pub mod Misfits
pub mod Names
pub mod Reasons
pub mod Sentences
pub mod Sites
