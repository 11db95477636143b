pub mod ReportLaws
mod TogetherLaws
mod WalkLaws
mod TableLaws
mod TextLaws
pub mod DifferenceLaws
mod JsonLaws
