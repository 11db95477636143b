pub mod Compacting
pub mod Private
