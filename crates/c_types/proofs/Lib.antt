pub mod SameTypes
pub mod MadeOf
