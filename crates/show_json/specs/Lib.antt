pub mod Columns
pub mod Private
pub mod Text
pub mod Values
