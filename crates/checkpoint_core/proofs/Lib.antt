pub mod Items
pub mod WrittenTableLaws
pub mod FramedLaws
pub mod MarkLaws
pub mod BehindLaws
pub mod RowLaws
pub mod ReadLaws
