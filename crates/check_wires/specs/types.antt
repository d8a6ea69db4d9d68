pub mod NodeTypes
pub mod inner
