use Rattle.std.proofs.Common.{◌≡◌, ◌++◌, drop, map}
use Rattle.serde_json.specs.View.{view}
use Rattle.workflow_check.specs.Ranges.{untiled_in}
use Rattle.workflow_check.proofs.ranges.push_untiled.Given as goal

-- the notes so far, and those of the tables that are left, are the whole
abbrev pub invariant-loop-i : goal.invariant-loop-i
invariant-loop-i l = l.notes.items ++ untiled_in (map view l.streams) l.i (map view (drop l.i l.tables)) ≡ l.fn.notes.items ++ untiled_in (map view l.streams) 0 (map view l.tables)
