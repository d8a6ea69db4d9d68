pub mod names_lemmas
pub mod graph_lemmas
