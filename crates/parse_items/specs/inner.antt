pub mod Items
pub mod Progress
