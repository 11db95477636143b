use Rattle.std.proofs.Common.{◌≡◌, ◌++◌, drop, map}
use Rattle.std.specs.Prelude.{codes, true}
use Rattle.vdiff_patch.specs.Patch.{differing_from}
use Rattle.vdiff_sql.specs.Columns.{listed}
use Rattle.vdiff_sql.specs.Statements.{assignment}
use Rattle.vdiff_sql.proofs.differing.push_assignments.Given as goal

-- the values so far and those that are left are the whole
abbrev pub invariant-loop-i : goal.invariant-loop-i
invariant-loop-i l = l.text.items ++ listed (codes ", ") l.is_first (map (assignment l.table) (differing_from l.i (drop l.i l.row) (drop l.i l.there))) ≡ l.fn.text.items ++ listed (codes ", ") true (map (assignment l.table) (differing_from 0 l.row l.there))
