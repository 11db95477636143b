pub mod Builders
pub mod MetSubcommand
pub mod ReadWords
pub mod TakenWords
