pub mod FlawLaws
pub mod IgnoredLaws
pub mod RangeLaws
pub mod SecondLaws
