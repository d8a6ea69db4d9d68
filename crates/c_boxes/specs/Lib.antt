pub mod Marks
pub mod Results
pub mod Rules
pub mod Boxes
pub mod inner
