-- What serves the code alone, and no public contract.
pub mod Next
