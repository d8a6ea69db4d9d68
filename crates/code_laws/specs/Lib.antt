pub mod Running
pub mod Variables
pub mod Ending
pub mod RuleEnding
