-- What private code alone needs.
pub mod Marks
pub mod Counted
pub mod Kept
pub mod Sizes
pub mod Spelled
