pub mod Ahead
pub mod ReaderRule
pub mod Stops
