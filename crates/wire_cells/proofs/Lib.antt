pub mod Writing
pub mod Rings
pub mod Frames
pub mod Holding
pub mod AtHome
