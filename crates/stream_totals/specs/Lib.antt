pub mod Totals
pub mod ChainLines
