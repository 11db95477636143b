pub mod Fault
pub mod Private
