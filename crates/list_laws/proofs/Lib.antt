pub mod Truths
pub mod Choices
pub mod Places
pub mod Fronts
pub mod Walks
