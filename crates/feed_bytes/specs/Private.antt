-- What serves the code alone, and no public contract.
pub mod FieldsBehind
pub mod Course
pub mod Search
