mod RowsLaws
pub mod KeyTextLaws
pub mod TableLaws
mod ReadingLaws
mod DigitValues
mod SpanLaws
mod StandLaws
mod KnownLaws
mod PairLaws
