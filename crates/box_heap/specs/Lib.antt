pub mod Heaps
pub mod Stacks
pub mod Standing
pub mod Outputs
pub mod Lending
pub mod inner
