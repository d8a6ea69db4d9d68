pub mod Dispatch
pub mod FoundExceptions
pub mod Outputs
pub mod ResultForms
pub mod Running
