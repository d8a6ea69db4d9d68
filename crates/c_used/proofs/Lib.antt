pub mod Sets
pub mod UseForms
pub mod ItemForms
pub mod KeptForms
pub mod Measures
