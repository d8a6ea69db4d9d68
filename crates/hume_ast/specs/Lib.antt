pub mod Spelling
pub mod Fits
pub mod Depth
pub mod Places
pub mod inner
