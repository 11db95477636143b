pub mod CellLaws
pub mod ChangeLaws
pub mod RowLaws
