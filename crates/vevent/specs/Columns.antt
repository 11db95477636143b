-- How many columns the rows of a row change have (`binlogdata.proto`, RowChange).
use Rattle.std.specs.Prelude.{ℕ, ◌==◌, ◌&&◌, Bool, true, List, length, Option, Some, None}
use Rattle.vevent.specs.EventValue.{ChangeValue}

-- a row has so many columns, where there is one
abbrev pub has_columns : ℕ → Option (List (Option (List ℕ))) → Bool
has_columns columns None = true
has_columns columns (Some row) = length row == columns

-- the row before a change and the row after it have so many columns, where there are any
abbrev pub have_columns : ℕ → ChangeValue → Bool
have_columns columns change = has_columns columns change.before && has_columns columns change.after
