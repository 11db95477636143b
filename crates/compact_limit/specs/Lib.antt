pub mod Laws
pub mod Least
pub mod Limit
pub mod Refused
