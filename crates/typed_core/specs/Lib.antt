pub mod Erasing
pub mod Typing
pub mod ResultTyping
pub mod Parts
pub mod ResultParts
pub mod Declarations
pub mod Trees
