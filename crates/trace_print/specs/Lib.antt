pub mod SpaceLines
pub mod TraceLines
pub mod Rooms
pub mod InTurn
pub mod inner
pub mod table
