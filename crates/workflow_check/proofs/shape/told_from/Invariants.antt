use Rattle.std.proofs.Common.{◌≡◌, drop, map}
use Rattle.serde_json.specs.View.{view}
use Rattle.workflow_check.specs.Shape.{told_from}
use Rattle.workflow_check.proofs.shape.told_from.Given as goal

-- the first is that of the items that are left
abbrev pub invariant-loop-i : goal.invariant-loop-i
invariant-loop-i g l = told_from g.T.Shape.tells l.i (map view (drop l.i l.values)) ≡ told_from g.T.Shape.tells 0 (map view l.values)
