pub mod ShownValues
pub mod ShownDifferences
