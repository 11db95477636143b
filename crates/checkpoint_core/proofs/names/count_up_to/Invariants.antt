use Rattle.std.proofs.Common.{◌≡◌, ◌+◌, ◌≤◌, length}
use Rattle.checkpoint_core.proofs.names.count_up_to.Given as goal

-- the tables so far, and those that are still to come, are all
abbrev pub invariant-loop-table : goal.invariant-loop-table
invariant-loop-table l = (l.count + length l._table-iterator ≡ length l.part.tables) × (l.count ≤ l.limit)
