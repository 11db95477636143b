use Rattle.std.proofs.Common.{◌≡◌, ◌+◌, ◌≤◌, drop}
use Rattle.status_said.specs.Lines.{done_of}
use Rattle.status_said.proofs.lines.done_of.Given as goal

-- those so far, and those of the tables that are left, are all
abbrev pub invariant-loop-table : goal.invariant-loop-table
invariant-loop-table l = (l.count + done_of (drop l.table-index l.tables) ≡ done_of l.tables) × (l.count ≤ l.table-index)
