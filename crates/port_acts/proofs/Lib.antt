pub mod ActLists
pub mod Making
pub mod Failing
pub mod Single
pub mod Stopping
pub mod Each
pub mod Wanting
pub mod Finishing
