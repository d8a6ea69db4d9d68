pub mod Blocks
pub mod Forgetting
pub mod LineReads
pub mod LinesRead
