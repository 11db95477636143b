-- How many rows changes have: as many touches are made of them.
use Rattle.std.specs.Prelude.{ℕ, ◌+◌, List, [], ◌∷◌, is_some}
use Rattle.std.specs.Int.{from_bool}
use Rattle.source_feed.specs.Planned.{PlannedChangeValue}

-- an update has two, an insert or a delete one
abbrev pub rows_in_change : PlannedChangeValue → ℕ
rows_in_change change = from_bool (is_some change.before) + from_bool (is_some change.after)

abbrev pub rows_in : List PlannedChangeValue → ℕ
rows_in [] = 0
rows_in (change ∷ later) = rows_in_change change + rows_in later
