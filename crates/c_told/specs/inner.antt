pub mod Arms
pub mod Several
