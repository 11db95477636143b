use Rattle.std.proofs.Common.{◌≡◌, ◌++◌, drop, eqb, map}
use Rattle.std.specs.Prelude.{codes, true}
use Rattle.pk_copy.specs.PartValue.{part_value}
use Rattle.vdiff_sql.specs.Columns.{listed}
use Rattle.vdiff_sql.specs.Keys.{conditions_from}
use Rattle.vdiff_sql.proofs.keys.push_conditions.Given as goal

-- the conditions so far and those that are left are the whole
abbrev pub invariant-loop-i : goal.invariant-loop-i
invariant-loop-i l = l.text.items ++ listed (codes " AND ") (eqb l.i 0) (conditions_from l.table l.i (map part_value (drop l.i l.parts))) ≡ l.fn.text.items ++ listed (codes " AND ") true (conditions_from l.table 0 (map part_value l.parts))
