-- ROW events that insert rows (`binlogdata.proto`, RowEvent).
use Rattle.std.specs.Prelude.{ℕ, List, map, None, Some}
use Rattle.row_view.specs.Row.{RowValue}
use Rattle.vevent.specs.EventValue.{ChangeValue, EventValue, Row}

-- a row as the change that inserts it: nothing before, the row after
abbrev pub insert_change : RowValue → ChangeValue
insert_change row = record { before = None; after = Some row }

-- the ROW that inserts rows of a table
abbrev pub inserts : List ℕ → List RowValue → EventValue
inserts name rows = Row name (map insert_change rows)
