pub mod Items
pub mod Json
pub mod Private
pub mod Said
pub mod Messages
pub mod Front
pub mod Differing
pub mod Place
