pub mod ResultForms
pub mod ResultLengths
pub mod ResultLists
pub mod ResultOrder
pub mod ResultWholes
