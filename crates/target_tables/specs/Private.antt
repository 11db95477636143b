-- What serves the changing of a map alone, and no public contract.
pub mod Runs
