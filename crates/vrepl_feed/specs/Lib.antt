pub mod Refusals
pub mod Fed
