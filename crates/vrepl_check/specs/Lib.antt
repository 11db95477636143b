pub mod Checking
pub mod Clean
