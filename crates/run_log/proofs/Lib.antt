pub mod Lists
pub mod BlockLines
pub mod Forgotten
pub mod LinesToPorts
pub mod Verdicts
pub mod Pieces
pub mod Halves
