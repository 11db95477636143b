pub mod NamedDump
pub mod Shown
pub mod Told
pub mod ToldValue
pub mod Reading
