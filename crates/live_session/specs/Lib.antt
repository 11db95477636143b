pub mod Answered
pub mod Counts
pub mod Growths
pub mod Pages
pub mod Saves
pub mod Sessions
pub mod Stops
pub mod Turns
