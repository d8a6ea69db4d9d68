pub mod ResultStates
pub mod ResultTasks
pub mod inner
