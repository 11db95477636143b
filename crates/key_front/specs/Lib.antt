pub mod Front
pub mod FirstBytes
