pub mod CaseCasts
pub mod FoundLarge
pub mod PassedWords
pub mod SizesAre
pub mod Steps
pub mod TypeLevels
