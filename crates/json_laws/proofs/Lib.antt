pub mod EmptyText
