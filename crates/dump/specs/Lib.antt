pub mod DumpRowsValue
pub mod Cells
pub mod KeyText
pub mod Dump
pub mod Private
pub mod DumpReading
pub mod DumpFaults
