pub mod Changes
pub mod Clear
pub mod Numbers
