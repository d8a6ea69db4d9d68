pub mod Kept
pub mod OneByOne
