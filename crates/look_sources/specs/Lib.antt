pub mod Lines
pub mod Pages
pub mod Parts
pub mod Spots
pub mod inner
