pub mod Literals
pub mod Columns
pub mod Keys
pub mod Statements
pub mod Private
