pub mod OwnActs
pub mod Faults
pub mod Rooms
