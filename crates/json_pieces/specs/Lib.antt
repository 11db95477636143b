pub mod Pieces
pub mod Private
pub mod Telling
