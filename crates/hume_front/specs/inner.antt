pub mod Checked
pub mod Stages
