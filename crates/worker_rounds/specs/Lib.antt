pub mod Rounds
pub mod Private
