pub mod Number
pub mod Crc
pub mod Event
pub mod Unread
pub mod Log
pub mod Cuts
pub mod FaultNumber
