pub mod WithinLaws
pub mod PositionLaws
pub mod EndLaws
