pub mod Stands
pub mod Reading
pub mod Least
