-- The rows of a change with what tells its table, as they are kept.
use Rattle.std.specs.Prelude.{ℕ, None, Some}
use Rattle.vevent.specs.EventValue.{ChangeValue}
use Rattle.source_feed.specs.declared.table_rows.TableRows.{TableRows}
use Rattle.source_feed.specs.declared.table_rows.TableRows.TheVariants.{Insert, Update, Delete}

-- the number that tells the table
abbrev pub table_of : TableRows → ℕ
table_of (Insert table after) = table
table_of (Update table before after) = table
table_of (Delete table before) = table

-- the rows before and after the change
abbrev pub rows_of : TableRows → ChangeValue
rows_of (Insert table after) = record { before = None; after = Some after }
rows_of (Update table before after) = record { before = Some before; after = Some after }
rows_of (Delete table before) = record { before = Some before; after = None }
