pub mod ReadingLaws
