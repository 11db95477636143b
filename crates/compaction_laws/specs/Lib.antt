pub mod Compacted
pub mod Base
pub mod CompactedFeed
pub mod Portions
pub mod CompactedBytes
pub mod Decisions
pub mod Laws
