-- What a column holds: nothing for NULL, else its bytes (`query.proto`, Row).
use Rattle.std.specs.Prelude.{ℕ, List, Option, None, Some}
use Rattle.row_view.specs.declared.column.Column.{Column}
use Rattle.row_view.specs.declared.column.Column.TheVariants.{Null, Bytes}

-- the bytes of a column's value, or `None` for NULL
abbrev pub column_value : Column → Option (List ℕ)
column_value Null = None
column_value (Bytes b) = Some b.now
