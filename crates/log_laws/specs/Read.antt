-- The groups that a feed has of transactions (this profile).
use Rattle.std.specs.Prelude.{ℕ, ◌+◌, Bool, true, false, List, [], ◌∷◌, map, Option, None, Some, is_some, Result, Ok, Err, if◌then◌else◌}
use Rattle.std.specs.List.{flat_map, list_any}
use Rattle.std.specs.Str.{bytes_eq}
use Rattle.gtid_set.specs.declared.interval.Interval.{Interval}
use Rattle.source_feed.specs.GroupValue.{TableChangeValue, GroupValue}
use Rattle.log_tables.specs.declared.fault.TableFault.{TableFault}
use Rattle.log_tables.specs.TableMap.{MapValue}
use Rattle.log_tables.specs.Column.{ColumnValue, columns_of}
use Rattle.log_rows.specs.declared.change.RowsKind.{RowsKind}
use Rattle.log_rows.specs.Head.{HeadValue}
use Rattle.log_rows.specs.Change.{Change, changes_of}
use Rattle.log_groups.specs.Transaction.{DoneValue, RowsOf, Altered}
use Rattle.log_course.specs.Course.{PlacedValue}
use Rattle.log_feed.specs.Table.{TableValue, table_of}
use Rattle.log_laws.specs.Source.{SourceTables}

-- ---- the changes of a transaction

-- a change of a row, as one of its table
abbrev pub change_read : List ℕ → Change → TableChangeValue
change_read name c = record { table = name; before = c.before; after = c.after }

-- those of some rows, each cell the text that its column gives for its bytes
abbrev pub rows_read : List ℕ → RowsKind → HeadValue → Result (List ColumnValue) TableFault → List TableChangeValue
rows_read name kind head (Ok columns) = map (change_read name) (changes_of kind columns head.rows).items
rows_read name kind head (Err fault) = []

-- the table of the feed that a map names, by its schema and its name
abbrev pub table_there : SourceTables → MapValue → Option (ℕ × TableValue)
table_there s m = if bytes_eq m.schema s.schema then table_of m.name s.tables else None

-- under the columns that the map has of it; those of another table are none of the feed's
abbrev pub rows_there : RowsKind → MapValue → HeadValue → Option (ℕ × TableValue) → List TableChangeValue
rows_there kind m head None = []
rows_there kind m head (Some x) = rows_read x.1.name kind head (columns_of x.1.columns m)

abbrev pub done_read : SourceTables → DoneValue → List TableChangeValue
done_read s (RowsOf kind m head) = rows_there kind m head (table_there s m)
done_read s (Altered q) = []

-- whether they are rows of one of the feed's tables
abbrev pub is_of_feed : SourceTables → DoneValue → Bool
is_of_feed s (RowsOf kind m head) = is_some (table_there s m)
is_of_feed s (Altered q) = false

-- ---- transactions

-- a transaction is one of the feed if it has rows of its tables
abbrev pub is_told : SourceTables → PlacedValue → Bool
is_told s g = list_any (is_of_feed s) g.changes

-- its group: the position behind it, and the changes of the feed's tables in order
abbrev pub group_read : SourceTables → ℕ → PlacedValue → GroupValue
group_read s number g = record { number = number; position = g.position; changes = flat_map (done_read s) g.changes }

-- the groups of transactions one behind another, numbered from this on
unfoldable pub groups_read : SourceTables → ℕ → List PlacedValue → List GroupValue
groups_read s number [] = []
groups_read s number (g ∷ groups) = if is_told s g then group_read s number g ∷ groups_read s (number + 1) groups else groups_read s number groups

-- the last one, without changes, where the position that was reached isn't that of the one before it
abbrev pub last_read : Bool → List Interval → ℕ → List GroupValue
last_read true reached number = []
last_read false reached number = record { number = number; position = reached; changes = [] } ∷ []

-- ---- what transactions reach

-- the position behind the last of them, or the one before
abbrev pub reached_by : List Interval → List PlacedValue → List Interval
reached_by reached [] = reached
reached_by reached (g ∷ groups) = reached_by g.position groups

-- whether the last of them is one of the feed's
abbrev pub said_by : SourceTables → Bool → List PlacedValue → Bool
said_by s said [] = said
said_by s said (g ∷ groups) = said_by s (is_told s g) groups
