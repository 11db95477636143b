-- What a reader gives, by the names that the layers above cite.
pub use Rattle.item_readers.specs.Reading.{Reading, Spells, put_first, Next}
unfoldable pub use Rattle.item_readers.specs.Reading.{reading_within, reading_of}
