pub mod Chains
pub mod Orders
pub mod Pigeons
pub mod LeftOut
pub mod Grown
pub mod Searched
pub mod ProgressSteps
pub mod LedBack
