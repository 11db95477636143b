pub mod WireLaws
pub mod MessageLaws
pub mod DigitLaws
pub mod PositionLaws
pub mod RuleLaws
pub mod WorkflowLaws
pub mod TransactionLaws
pub mod TouchLaws
pub mod RunLaws
mod Examples
