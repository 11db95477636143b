pub mod Opened
pub mod Private
