pub mod Source
pub mod Live
pub mod Private
