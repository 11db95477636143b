pub mod Steps
pub mod RowLaws
pub mod PositionText
pub mod StageLaws
pub mod BodyLaws
pub mod GroupLaws
pub mod RiseLaws
pub mod ByteLaws
