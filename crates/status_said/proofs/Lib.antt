pub mod ReadLaws
pub mod JsonLaws
pub mod EndLaws
pub mod TextLaws
