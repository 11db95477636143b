pub mod PartLaws
pub mod OwnRows
pub mod ResumedLaws
pub mod RestartedLaws
pub mod OneThing
pub mod PositionText
pub mod SaidLaws
pub mod MoreLaws
