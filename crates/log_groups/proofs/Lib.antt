pub mod MarkLaws
pub mod StepLaws
pub mod TransactionLaws
pub mod WaitingLaws
pub mod CutLaws
pub mod StandLaws
pub mod GroupLaws
pub mod OneLaws
mod Examples
