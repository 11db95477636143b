use Rattle.std.proofs.Common.{◌≡◌, ◌++◌, map, drop}
use Rattle.checkpoint_core.specs.Private.Reading.{AreRows, of_table, rows_from}
use Rattle.checkpoint_core.proofs.rows.read_rows.Given as goal

-- the rows so far are ones, and with those of the tables that are still to come they are all
abbrev pub invariant-loop-t : goal.invariant-loop-t
invariant-loop-t l =
    AreRows l.plan (map of_table l.rows.items) l.rows.items
    × (map of_table l.rows.items ++ rows_from l.t (drop l.t l.tables) ≡ rows_from 0 l.tables)
