pub mod Source
pub mod Transcribed
pub mod Private
