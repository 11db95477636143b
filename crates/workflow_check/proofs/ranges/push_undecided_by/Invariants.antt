use Rattle.std.proofs.Common.{◌≡◌, ◌++◌, drop, map}
use Rattle.workflow_check.specs.Ranges.{undecided_by}
use Rattle.workflow_check.proofs.ranges.push_undecided_by.Given as goal

-- the notes so far, and those of the tables that are left, are the whole
abbrev pub invariant-loop-table : goal.invariant-loop-table
invariant-loop-table l = l.notes.items ++ undecided_by l.rules l.place (map (λ name. name.now) (drop l.table-index l.tables)) ≡ l.fn.notes.items ++ undecided_by l.rules l.place (map (λ name. name.now) l.tables)
