-- What private functions alone cite.
pub mod Exchange
pub mod Words
pub mod Scheduled
