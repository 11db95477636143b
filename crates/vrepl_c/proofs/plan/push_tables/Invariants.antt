use Rattle.std.proofs.Common.{◌≡◌, ◌++◌, drop}
use Rattle.vrepl_c.specs.PlanBytes.{tables_bytes}
use Rattle.vrepl_c.proofs.plan.push_tables.Given as goal

-- the bytes so far and those of the tables that are left are the whole
abbrev pub invariant-loop-table : goal.invariant-loop-table
invariant-loop-table l = l.into.items ++ tables_bytes (drop l.table-index l.tables) ≡ l.fn.into.items ++ tables_bytes l.tables
