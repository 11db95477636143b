pub mod Changes
pub mod Since
pub mod Laws
