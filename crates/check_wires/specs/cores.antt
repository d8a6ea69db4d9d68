pub mod Missing
pub mod inner
