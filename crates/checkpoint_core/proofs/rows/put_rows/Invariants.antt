use Rattle.std.proofs.Common.{◌≡◌, ◌++◌, map}
use Rattle.checkpoint_core.specs.Private.Reading.{AreRows, of_table, rows_in}
use Rattle.checkpoint_core.proofs.rows.put_rows.Given as goal

-- the rows so far are ones, and with those that are still to come they are all
abbrev pub invariant-loop-row : goal.invariant-loop-row
invariant-loop-row l =
    AreRows l.plan (map of_table l.rows.items) l.rows.items
    × (map of_table l.rows.items ++ rows_in l.t l.row-iterator ≡ map of_table l.fn.rows.items ++ rows_in l.t l.fn.found)
