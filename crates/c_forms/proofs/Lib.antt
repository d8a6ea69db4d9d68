pub mod OpenedForms
pub mod LastingForms
pub mod SameForms
pub mod MentionForms
