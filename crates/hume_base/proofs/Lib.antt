pub mod Sizes
pub mod Tables
pub mod KeywordTexts
pub mod Least
pub mod SymbolTexts
pub mod WordsTell
pub mod FlatLengths
pub mod lines_lemmas
