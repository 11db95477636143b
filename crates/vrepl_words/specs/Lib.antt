pub mod Arguments
pub mod Built
pub mod Choices
pub mod Portions
pub mod Subcommand
pub mod Untils
pub mod Usage
pub mod commands
