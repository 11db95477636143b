pub mod Orders
pub mod NextLaws
pub mod MisfitLaws
