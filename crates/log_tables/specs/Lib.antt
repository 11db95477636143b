pub mod Fault
pub mod Part
pub mod TableMap
pub mod Extra
pub mod Collation
pub mod Kind
pub mod Column
