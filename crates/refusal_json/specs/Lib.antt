pub mod Details
pub mod Explained
pub mod Private
pub mod Refusal
