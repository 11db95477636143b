pub mod Fault
pub mod Added
pub mod List
pub mod Place
pub mod Private
