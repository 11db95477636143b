-- What private code alone needs.
pub mod Partings
pub mod Tables
pub mod Reading
pub mod Spans
pub mod Lent
pub mod Known
