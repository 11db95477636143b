pub mod Cover
pub mod Private
