pub mod Standing
pub mod GoingOn
pub mod Leading
