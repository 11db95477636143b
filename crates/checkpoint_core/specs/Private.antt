-- What serves the crate's own code alone.
pub mod WrittenTables
pub mod Reading
