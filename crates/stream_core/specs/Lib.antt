pub mod Standing
pub mod Refusals
pub mod Rows
pub mod StepTable
