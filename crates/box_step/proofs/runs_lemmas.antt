pub mod OutputRoom
pub mod HeapPeaks
pub mod Ends
pub mod HaveRun
