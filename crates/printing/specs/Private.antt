-- What proofs about printed texts alone need.
pub mod Progress
pub mod Spelling
