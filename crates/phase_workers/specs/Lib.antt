pub mod Runnable
pub mod StreamTypes
pub mod RightQueues
pub mod Engines
pub mod NodeFills
pub mod StateCodes
pub mod inner
