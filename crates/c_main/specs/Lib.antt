pub mod Texts
pub mod Found
pub mod Streams
pub mod Take
pub mod Show
pub mod Main
pub mod inner
