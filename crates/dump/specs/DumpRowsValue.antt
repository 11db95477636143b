-- Rows by key as a plain value (this profile).
use Rattle.std.specs.Prelude.{ℕ, List, Option, map}
use Rattle.std.specs.Map.{lookup}
use Rattle.std.specs.Ordering.{eq_by_cmp}
pub use Rattle.row_view.specs.Row.{RowValue}
use Rattle.pk_copy.specs.KeyOrder.{key_cmp}
use Rattle.pk_copy.specs.KeyValue.{KeyValue}

-- keys, each with its row
abbrev pub DumpRowsValue : Type 0
DumpRowsValue = List (KeyValue × RowValue)

-- the row at a key
abbrev pub row_with_key : DumpRowsValue → KeyValue → Option RowValue
row_with_key rows key = lookup (eq_by_cmp key_cmp key) rows

-- a row and its key, whoever owns it
abbrev pub unowned : KeyValue × (ℕ × RowValue) → KeyValue × RowValue
unowned entry = (entry.0, entry.1.1)

-- all rows of a target, by rising key
abbrev pub all_rows : List (KeyValue × (ℕ × RowValue)) → DumpRowsValue
all_rows entries = map unowned entries
