pub mod DeclSteps
pub mod BoxSteps
pub mod ItemSteps
pub mod Running
