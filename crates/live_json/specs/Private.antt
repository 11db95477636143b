-- What private code alone needs.
pub mod Parts
