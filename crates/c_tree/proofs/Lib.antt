pub mod Steps
pub mod ExpressionForms
pub mod StatementForms
pub mod Measures
