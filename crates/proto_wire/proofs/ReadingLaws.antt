-- Laws of any reader of items one after another, by the names that the layers above cite.
pub use Rattle.item_readers.proofs.ReadingLaws.{TakesBytes, reading-none, reading-first, reading-fault, IsReader, spells-reading, only_reading, empty_list, not_empty, next_none, next_err, next_some}
