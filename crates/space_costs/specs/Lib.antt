pub mod NodeCosts
pub mod inner
