-- What serves the reading of an event alone, and no public contract.
pub mod Singular
pub mod ColumnCount
pub mod EventParts
pub mod Sound
pub mod AnswerParts
pub mod PartContents
