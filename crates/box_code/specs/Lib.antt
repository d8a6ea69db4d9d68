pub mod Words
pub mod Reading
pub mod Codes
pub mod Paths
pub mod FlatObjects
pub mod Machine
pub mod Represents
pub mod RepresentsBox
