pub mod Rounds
pub mod Streams
pub mod Pieces
pub mod Blocked
