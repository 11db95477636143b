pub mod HexLaws
pub mod InputLaws
pub mod AddLaws
mod NumberLaws
pub mod CommandLaws
mod OpenLaws
pub mod EndLaws
mod ScriptRunLaws
mod ToldLaws
mod StepLaws
pub mod VdiffLaws
mod SaveLaws
mod ResumeLaws
mod JoinedLaws
mod RunLaws
mod RightLaws
mod SaidLaws
mod HandedOnLaws
mod AtOnceLaws
mod FollowLaws
mod AheadLaws
