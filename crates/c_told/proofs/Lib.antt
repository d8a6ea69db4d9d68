pub mod ToldForms
pub mod LastTypes
