pub mod Asking
pub mod Cores
pub mod Showing
