pub mod Held
pub mod Views
pub mod Rule
pub mod Asking
pub mod Seats
pub mod Closing
pub mod Counts
pub mod Plays
