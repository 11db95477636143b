pub mod Sources
pub mod Passing
pub mod Cover
pub mod Lines
pub mod Said
pub mod Printed
pub mod Private
