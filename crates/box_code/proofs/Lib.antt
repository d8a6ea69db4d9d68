pub mod ReadBack
pub mod Growing
pub mod FiveBits
