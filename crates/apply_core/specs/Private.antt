-- What serves the crate's own code alone.
pub mod Changes
pub mod Chunks
pub mod StreamState
pub mod StreamStep
pub mod Beside
pub mod Meeting
pub mod Together
pub mod Saving
pub mod Resuming
pub mod Adding
pub mod AllowedSteps
