mod Turns
mod MatchForms
pub mod WaysForms
