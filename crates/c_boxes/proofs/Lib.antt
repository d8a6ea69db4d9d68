pub mod ResultForms
pub mod MarkForms
pub mod RuleForms
pub mod Raising
pub mod CaseSteps
pub mod CaseForms
