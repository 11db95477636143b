-- What serves the loops over a feed's changes alone, and no public contract.
pub mod Replayed
pub mod Owners
pub mod SeenNames
