pub mod JsonLaws
mod FieldLaws
