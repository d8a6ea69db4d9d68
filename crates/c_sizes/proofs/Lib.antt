pub mod Steps
pub mod Turns
pub mod Lookup
pub mod Measures
pub mod MemberForms
pub mod ExpressionForms
pub mod StatementForms
