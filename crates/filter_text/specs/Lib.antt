pub mod Lexemes
pub mod Tokens
pub mod ColumnList
pub mod FilterText
pub mod Spelling
pub mod RuleScope
pub mod Views
pub mod Private
