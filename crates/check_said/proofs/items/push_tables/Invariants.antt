use Rattle.std.proofs.Common.{◌≡◌, ◌++◌, ◌+◌, drop, map}
use Rattle.check_said.specs.Items.{tables_items}
use Rattle.check_said.proofs.items.push_tables.Given as goal

-- what is told so far, and that of the tables that are left, are the whole
abbrev pub invariant-loop-t : goal.invariant-loop-t
invariant-loop-t l = l.told.items ++ tables_items l.i l.check l.t (drop l.t l.tables) ≡ l.fn.told.items ++ tables_items l.i l.check 0 l.tables
