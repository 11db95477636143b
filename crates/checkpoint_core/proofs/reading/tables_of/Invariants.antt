use Rattle.std.proofs.Common.{◌≡◌, ◌++◌}
use Rattle.checkpoint_core.proofs.reading.tables_of.Given as goal

-- the parts so far, and those that are still to come, are all
abbrev pub invariant-loop-table : goal.invariant-loop-table
invariant-loop-table l = l.tables.items ++ l.table-iterator ≡ l.part.tables
