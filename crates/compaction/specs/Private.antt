-- What serves the code alone, and no public contract.
pub mod LeftEntries
pub mod Limits
pub mod Sized
pub mod Written
