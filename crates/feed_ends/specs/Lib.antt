pub mod AtPosition
pub mod EndedFeeds
pub mod Faults
pub mod Positions
pub mod Private
