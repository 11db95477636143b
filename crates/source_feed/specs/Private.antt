-- What serves the loops over a feed alone, and no public contract.
pub mod SetLaws
pub mod EventByEvent
pub mod FeedTables
pub mod TableRows
pub mod KeptGroups
pub mod NamedGroups
pub mod KeptChanges
pub mod BlockEnd
pub mod Start
pub mod ReaderState
pub mod KnownBehind
pub mod Walked
pub mod ReadOn
pub mod TouchesBehind
pub mod LeftRows
pub mod RowCounts
pub mod ImageEntries
