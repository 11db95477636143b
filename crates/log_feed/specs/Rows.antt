-- A row event of a log as the event of a feed (`binlogdata.proto`, RowEvent).
use Rattle.std.specs.Prelude.{ℕ, ◌^◌, ◌&&◌, nat_le, if◌then◌else◌, Bool, true, List, [], ◌∷◌, length, map, Option, None, Some, Result, Ok, Err}
use Rattle.list_laws.specs.Outcome.{◌>>=◌}
use Rattle.proto_wire.specs.Writing.{written_fields}
use Rattle.row_view.specs.WrittenRow.{packed_fields}
use Rattle.vevent.specs.EventValue.{ChangeValue, EventValue, Row, Field}
use Rattle.log_values.specs.declared.fault.ValueFault.{ValueFault}
use Rattle.log_tables.specs.TableMap.{MapValue}
use Rattle.log_tables.specs.Column.{ColumnValue, columns_of}
use Rattle.log_rows.specs.declared.change.RowsKind.{RowsKind}
use Rattle.log_rows.specs.Head.{HeadValue, has_all}
use Rattle.log_rows.specs.Change.{Change, changes_of}
use Rattle.log_feed.specs.declared.fault.Trouble.{Trouble}
use Rattle.log_feed.specs.declared.fault.Trouble.TheVariants.{NotAll, Value, TooLong, NotMade}
use Rattle.log_feed.specs.declared.table.Stage.{Stage}
use Rattle.log_feed.specs.declared.table.Stage.TheVariants.{Absent, Made, Filled}
use Rattle.log_feed.specs.Fault.{of_columns}
use Rattle.log_feed.specs.Table.{TableValue, field_of}

-- a change of the log as one of a feed
abbrev pub change_of : Change → ChangeValue
change_of c = record { before = c.before; after = c.after }

-- whether a row, if it is there, is within what a feed has: 2^24 bytes as its message
abbrev pub is_short : Option (List (Option (List ℕ))) → Bool
is_short None = true
is_short (Some row) = nat_le (length (written_fields (packed_fields row))) (2 ^ 24)

-- changes up to their end, all within what a feed has; or the first fault
abbrev pub told : List Change → Option ValueFault → Result (List ChangeValue) Trouble
told [] None = Ok []
told [] (Some fault) = Err (Value fault)
told (c ∷ changes) end = if is_short c.before && is_short c.after then (told changes end >>= λ others. Ok (change_of c ∷ others)) else Err TooLong

-- those of some rows, under the columns of their table
abbrev pub told_under : RowsKind → HeadValue → List ColumnValue → Result (List ChangeValue) Trouble
told_under kind head columns = if has_all (length columns) head then told (changes_of kind columns head.rows).items (changes_of kind columns head.rows).fault else Err NotAll

-- the ROW of some changes
abbrev pub row_told : List ℕ → Result (List ChangeValue) Trouble → Result EventValue Trouble
row_told name r = r >>= λ changes. Ok (Row name changes)

-- the ROW of a row event
abbrev pub row_of : RowsKind → MapValue → HeadValue → TableValue → Result EventValue Trouble
row_of kind m head table = of_columns (columns_of table.columns m) >>= λ columns. row_told table.name (told_under kind head columns)

-- the FIELD of a table
abbrev pub field_event_of : TableValue → EventValue
field_event_of table = Field table.name (map field_of table.columns)

-- what a feed tells of a row event: before a table's first rows also its columns
unfoldable pub events_of_rows : RowsKind → MapValue → HeadValue → TableValue → Stage → Result (List EventValue) Trouble
events_of_rows kind m head table Absent = Err NotMade
events_of_rows kind m head table Made = row_of kind m head table >>= λ row. Ok (field_event_of table ∷ row ∷ [])
events_of_rows kind m head table Filled = row_of kind m head table >>= λ row. Ok (row ∷ [])
