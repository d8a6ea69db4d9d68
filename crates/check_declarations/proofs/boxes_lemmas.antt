pub mod BoxLaws
pub mod HandlerLaws
pub mod Lists
pub mod Partial
pub mod PortLaws
pub mod PositionLaws
pub mod RuleLaws
