pub mod Ranges
pub mod NodeTotals
pub mod Rounds
pub mod ChainsTold
