pub mod Widths
pub mod Bodies
pub mod Helpers
pub mod Operations
