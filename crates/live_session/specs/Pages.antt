-- Rows of a table, page by page (this profile).
use Rattle.std.specs.Prelude.{ℕ, ◌==◌, take, Option, option_map, slice_get}
use Rattle.std.specs.List.{filter}
use Rattle.pk_copy.specs.KeyOrder.{key_cmp}
use Rattle.pk_copy.specs.KeyValue.{KeyValue}
use Rattle.target_tables.specs.Contents.{from_key}
use Rattle.source_feed.specs.History.{KeptRow}
use Rattle.board_laws.specs.Meaning.{TargetRows}
use Rattle.live_json.specs.Answers.{PageValue}

-- those of a table among rows
abbrev pub of_table : TargetRows → ℕ → TargetRows
of_table rows t = filter (λ (entry : KeyValue × (ℕ × KeptRow)). entry.0.table == t) rows

-- the first so many of them
abbrev pub first_of : TargetRows → ℕ → ℕ → TargetRows
first_of rows t n = take n (of_table rows t)

-- the rows of the table of a key, from that key on
abbrev pub table_from : TargetRows → KeyValue → TargetRows
table_from rows from = of_table (from_key key_cmp rows from) from.table

-- the key of a row that may be there
abbrev pub key_at : TargetRows → ℕ → Option KeyValue
key_at rows n = option_map (λ (entry : KeyValue × (ℕ × KeptRow)). entry.0) (slice_get rows n)

-- the first so many of them, and the key of the next one
abbrev pub page_of : TargetRows → KeyValue → ℕ → PageValue
page_of rows from most = record { rows = take most (table_from rows from); next = key_at (table_from rows from) most }
