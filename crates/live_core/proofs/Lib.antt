pub mod KeyLaws
pub mod TouchedLaws
pub mod GrowingLaws
pub mod LiveLaws
pub mod ToldLaws
