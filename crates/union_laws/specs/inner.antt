pub mod Outcomes
pub mod ResultCalls
pub mod Names
