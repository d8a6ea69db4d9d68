pub mod FoundPlaces
pub mod FinishedPlaces
pub mod RunEnds
