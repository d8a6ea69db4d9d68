pub mod DeclarationWalk
pub mod ResultWalk
pub mod SameTypes
pub mod Walk
