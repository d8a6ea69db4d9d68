pub mod Seen
pub mod Targets
pub mod Raises
pub mod Needs
pub mod Plain
pub mod Uses
pub mod inner
