pub mod Alone
pub mod Changes
pub mod ClearArms
pub mod Measures
pub mod NumberForms
pub mod ResultForms
pub mod Sums
pub mod UnfoldForms
