pub mod Shown
pub mod Says
pub mod Private
