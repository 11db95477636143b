pub mod Fault
pub mod Course
pub mod Calls
