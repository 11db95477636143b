pub mod VarintLoop
pub mod ReadingLaws
pub mod VarintLaws
pub mod ShortestLaws
pub mod FieldLaws
pub mod Sint64Laws
pub mod SpellingLoop
pub mod WritingLaws
