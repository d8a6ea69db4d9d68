pub mod Erased
pub mod Typed
pub mod TypedResults
pub mod PartsTyped
pub mod ResultPartsTyped
