pub mod InsertLaws
pub mod FieldLaws
pub mod CourseLaws
pub mod WalkLaws
pub mod NextLaws
pub mod SearchLaws
