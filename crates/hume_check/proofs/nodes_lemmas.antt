pub mod BoxLaws
pub mod FunctionLaws
pub mod Gathered
pub mod NodeLaws
pub mod PortLaws
pub mod TreeLaws
