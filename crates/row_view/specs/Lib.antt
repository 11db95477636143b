pub mod ColumnValue
pub mod FaultNumber
pub mod FieldValue
pub mod RowFields
pub mod Row
pub mod Picked
pub mod Private
pub mod WrittenRow
