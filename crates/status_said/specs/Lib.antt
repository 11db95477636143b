pub mod Shards
pub mod Lines
pub mod Json
pub mod Said
pub mod Printed
