pub mod ColumnLaws
pub mod ValueLaws
