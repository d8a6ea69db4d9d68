pub mod Supersteps
pub mod RecordActs
pub mod Outcomes
pub mod VerifyActs
pub mod Opened
pub mod Ended
pub mod inner
