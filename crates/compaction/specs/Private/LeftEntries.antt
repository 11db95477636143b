-- The entries of the rows that are left: each row under one stream, by the number 0.
use Rattle.std.specs.Prelude.{◌≡◌, ℕ, List, map, Option, IfSome}
use Rattle.std.specs.Option.{option_map}
use Rattle.pk_copy.specs.KeyOrder.{key_cmp}
use Rattle.pk_copy.specs.KeyValue.{KeyValue}
use Rattle.target_tables.specs.Contents.{value_at}
use Rattle.source_feed.specs.History.{RowValue}
use Rattle.source_feed.specs.Image.{ImageRows}
use Rattle.source_feed.specs.Touches.{TouchValue, PutValue}

abbrev pub Entries : Type 0
Entries = List (KeyValue × (ℕ × RowValue))

-- the rows, without their stream
abbrev pub rows_of : Entries → ImageRows
rows_of entries = map (λ e. (e.0, e.1.1)) entries

-- what stands at each key is of stream 0
abbrev pub AreOwn : Entries → Type 0
AreOwn entries = (key : KeyValue) → IfSome (value_at key_cmp entries key) (λ there. there.0 ≡ 0)

-- the row that a touch puts at its key, or nothing
abbrev pub row_put : Option PutValue → Option RowValue
row_put put = option_map (λ p. p.row) put

-- a touch as a change of the rows that are left, whether or not the row passes
abbrev pub change_of : TouchValue → KeyValue × Option RowValue
change_of touch = (touch.0, row_put touch.1)
