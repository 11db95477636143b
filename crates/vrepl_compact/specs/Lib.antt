pub mod Asked
pub mod Compacted
pub mod Private
pub mod Refusals
pub mod Told
pub mod Wanting
