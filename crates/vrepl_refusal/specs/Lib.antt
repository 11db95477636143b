pub mod Form
pub mod Told
