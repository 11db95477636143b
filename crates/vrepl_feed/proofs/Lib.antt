mod EndLaws
pub mod ShowLaws
