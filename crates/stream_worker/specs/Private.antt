-- What serves the crate's own code alone.
pub mod FoundGroups
pub mod Offers
pub mod SeatSteps
pub mod SeatRuns
pub mod Turns
