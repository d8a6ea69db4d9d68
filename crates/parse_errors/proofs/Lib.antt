pub mod ReportedPlaces
pub mod Answered
