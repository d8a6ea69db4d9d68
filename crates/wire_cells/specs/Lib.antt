pub mod Cells
pub mod Homes
pub mod Lending
pub mod inner
