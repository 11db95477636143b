pub mod ListLaws
pub mod DifferingLaws
pub mod StatementLaws
