pub mod Lengths
pub mod LinesInTurn
pub mod Greatest
pub mod ValuesPut
pub mod WireNames
mod table_lemmas
