-- An image's entries: each row under one stream, by the number 0.
use Rattle.std.specs.Prelude.{◌≡◌, ◌==◌, ℕ, List, map, take, Option, IfSome}
use Rattle.std.specs.List.{filter}
use Rattle.pk_copy.specs.KeyOrder.{key_cmp}
use Rattle.pk_copy.specs.KeyValue.{KeyValue}
use Rattle.target_tables.specs.Contents.{value_at}
use Rattle.std.specs.Option.{option_and_then}
use Rattle.source_feed.specs.History.{RowValue, passing}
use Rattle.source_feed.specs.Image.{ImageRows}
use Rattle.source_feed.specs.Touches.{TouchValue}

abbrev pub Entries : Type 0
Entries = List (KeyValue × (ℕ × RowValue))

-- the rows, without their stream
abbrev pub rows_of : Entries → ImageRows
rows_of entries = map (λ e. (e.0, e.1.1)) entries

-- what stands at each key is of stream 0
abbrev pub AreOwn : Entries → Type 0
AreOwn entries = (key : KeyValue) → IfSome (value_at key_cmp entries key) (λ there. there.0 ≡ 0)

-- a touch as a change of an image: a row that doesn't pass leaves nothing
abbrev pub change_of : TouchValue → KeyValue × Option RowValue
change_of touch = (touch.0, option_and_then passing touch.1)

-- the first n rows of table t
abbrev pub first_of : Entries → ℕ → ℕ → ImageRows
first_of entries t n = take n (filter (λ row. row.0.table == t) (rows_of entries))
