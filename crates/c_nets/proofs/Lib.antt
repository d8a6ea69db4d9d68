pub mod Below
pub mod GivenForms
pub mod ValueForms
