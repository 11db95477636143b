pub mod Fault
pub mod Table
pub mod Words
pub mod Statement
pub mod Rows
pub mod Group
pub mod Private
