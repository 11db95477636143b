pub mod AllDifferences
pub mod Patch
pub mod Repair
pub mod Private
