pub mod Moves
pub mod Unmoved
pub mod UnionWords
pub mod RoomTests
