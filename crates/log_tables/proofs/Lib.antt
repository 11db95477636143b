pub mod Fronts
pub mod PartLaws
pub mod WalkLaws
