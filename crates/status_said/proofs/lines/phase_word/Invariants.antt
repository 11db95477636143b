use Rattle.std.proofs.Common.{◌≡◌, drop}
use Rattle.status_said.specs.Lines.{are_done}
use Rattle.status_said.proofs.lines.phase_word.Given as goal

-- all are copied if those that are left are
abbrev pub invariant-loop-table : goal.invariant-loop-table
invariant-loop-table l = are_done (drop l.table-index l.tables) ≡ are_done l.tables
