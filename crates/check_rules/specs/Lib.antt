pub mod CheckRules
pub mod Constants
pub mod CoreOf
pub mod Declared
pub mod OfTokens
pub mod SignaturesOf
pub mod SizeRules
pub mod TypeRules
