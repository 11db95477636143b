use Rattle.std.proofs.Common.{◌≡◌, ◌++◌, drop}
use Rattle.vrepl_c.specs.PlanBytes.{columns_bytes}
use Rattle.vrepl_c.proofs.plan.push_columns.Given as goal

-- the bytes so far and those of the columns that are left are the whole
abbrev pub invariant-loop-column : goal.invariant-loop-column
invariant-loop-column l = l.into.items ++ columns_bytes (drop l.column-index l.columns) ≡ l.fn.into.items ++ columns_bytes l.columns
