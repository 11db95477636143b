pub mod ByteWords
pub mod LeadLaws
