pub mod Inserts
pub mod FieldBytes
pub mod Cut
pub mod Private
