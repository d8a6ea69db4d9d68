pub mod Begun
pub mod Filling
pub mod Going
pub mod Making
pub mod Midst
pub mod Seeing
pub mod Whole
