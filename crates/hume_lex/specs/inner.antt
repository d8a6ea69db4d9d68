pub mod Scan
pub mod View
