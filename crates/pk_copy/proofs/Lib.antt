mod OrderLaws
mod TieLaws
mod MarkLaws
mod ReadingLaws
mod KeptLaws
mod RelationLaws
mod LeastKey
mod WordLaws
mod FrontLaws
pub mod LastpkLaws
pub mod PartLaws
