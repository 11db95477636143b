-- What serves the crate's own code alone.
pub mod Starting
