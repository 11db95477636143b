pub mod BegunLaws
pub mod OpenedLaws
