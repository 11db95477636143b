-- What an image of a source holds: the rows that pass the filter, by rising key (this profile).
use Rattle.std.specs.Prelude.{ℕ, List, take, Option, Some, None, ◌==◌, ◌&&◌}
use Rattle.std.specs.List.{filter}
use Rattle.std.specs.Map.{lookup}
use Rattle.std.specs.Option.{option_and_then}
use Rattle.std.specs.Ordering.{eq_by_cmp}
use Rattle.pk_copy.specs.KeyOrder.{key_cmp}
use Rattle.pk_copy.specs.KeyValue.{KeyValue}
use Rattle.pk_copy.specs.Marks.{is_beyond}
use Rattle.source_feed.specs.History.{RowValue, passing}
use Rattle.source_feed.specs.Touches.{PutValue}
use denote.Ref.{Bor}

-- rows by rising key
abbrev pub ImageRows : Type 0
ImageRows = List (KeyValue × RowValue)

-- the row at a key
abbrev pub row_in : ImageRows → KeyValue → Option RowValue
row_in rows key = lookup (eq_by_cmp key_cmp key) rows

-- what stands at a key after a group, by the group's last touch of it: without a touch what stood there, else
-- the row that was put, if there is one and it passes the filter
abbrev pub kept_after : Option (Option PutValue) → Option RowValue → Option RowValue
kept_after None before = before
kept_after (Some put) before = option_and_then passing put

-- the first n rows of table t past a key, if one is given
abbrev pub chunk_of : ImageRows → ℕ → Option KeyValue → ℕ → ImageRows
chunk_of rows t after n = take n (filter (λ row. row.0.table == t && is_beyond after row.0) rows)

-- a row as it is lent: a borrowed key, and a borrowed row
abbrev pub lent_row : Bor KeyValue × Bor RowValue → KeyValue × RowValue
lent_row row = (row.0.now, row.1.now)
