pub mod Saved
pub mod Written
pub mod Said
pub mod Resumed
pub mod Faults
pub mod Refused
pub mod Laws
pub mod Added
