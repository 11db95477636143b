pub mod Source
pub mod Transcript
pub mod Fault
pub mod Read
pub mod Far
pub mod Laws
