use Rattle.std.proofs.Common.{◌≡◌, ◌++◌, drop}
use Rattle.checkpoint_core.proofs.WrittenTableLaws.{rows_at}
use Rattle.checkpoint_core.proofs.written_tables.table_rows.Given as goal

-- the table's rows so far, and those that are still to come, are all
abbrev pub invariant-loop-i : goal.invariant-loop-i
invariant-loop-i l = l.rows.items ++ rows_at l.t (drop l.i l.own) ≡ rows_at l.t l.own
