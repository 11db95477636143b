mod BoundLemmas
mod NumberLemmas
mod NumberTextLaws
mod RangeAnswerLaws
mod RangeLemmas
mod TilingLemmas
