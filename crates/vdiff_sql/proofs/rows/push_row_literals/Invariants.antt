use Rattle.std.proofs.Common.{◌≡◌, ◌++◌, drop, eqb}
use Rattle.std.specs.Prelude.{codes, true}
use Rattle.vdiff_sql.specs.Columns.{listed, row_literals}
use Rattle.vdiff_sql.proofs.rows.push_row_literals.Given as goal

-- the values so far and those that are left are the whole
abbrev pub invariant-loop-i : goal.invariant-loop-i
invariant-loop-i l = l.text.items ++ listed (codes ", ") (eqb l.i 0) (row_literals l.table l.i (drop l.i l.row)) ≡ l.fn.text.items ++ listed (codes ", ") true (row_literals l.table 0 l.row)
