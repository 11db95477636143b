pub mod Position
pub mod Equal
pub mod Inner
pub mod Blank
pub mod Digits
pub mod Text
pub mod Printed
pub mod Fault
