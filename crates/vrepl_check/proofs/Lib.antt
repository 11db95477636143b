pub mod CheckingLaws
pub mod FileLaws
pub mod CleanLaws
