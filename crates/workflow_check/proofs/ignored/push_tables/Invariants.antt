use Rattle.std.proofs.Common.{◌≡◌, ◌++◌, drop, map}
use Rattle.serde_json.specs.View.{view}
use Rattle.workflow_check.specs.Ignored.{tables_ignored}
use Rattle.workflow_check.proofs.ignored.push_tables.Given as goal

-- the notes so far, and those of the tables that are left, are the whole
abbrev pub invariant-loop-i : goal.invariant-loop-i
invariant-loop-i l = l.notes.items ++ tables_ignored l.i (map view (drop l.i l.tables)) ≡ l.fn.notes.items ++ tables_ignored 0 (map view l.tables)
