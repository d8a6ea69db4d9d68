pub mod Memory
pub mod EqualCalls
pub mod Rounds
pub mod Bounds
pub mod FailedReads
