pub mod Printing
pub mod Private
