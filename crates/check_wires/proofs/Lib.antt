pub mod constants_lemmas
pub mod types_lemmas
pub mod first_values_lemmas
pub mod cores_lemmas
