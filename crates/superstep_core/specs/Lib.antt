pub mod Schedules
pub mod Playing
pub mod Groups
pub mod Turns
pub mod inner
