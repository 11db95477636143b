pub mod FaultNumber
pub mod GrownValue
