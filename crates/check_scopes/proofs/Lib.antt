pub mod Keeping
pub mod Places
pub mod Pushed
pub mod PushedTypes
pub mod signatures_lemmas
pub mod types_lemmas
