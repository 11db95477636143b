use Rattle.std.proofs.Common.{[], drop}
use Rattle.workflow_check.specs.Shape.{second_from}
use Rattle.workflow_check.proofs.SecondLaws.{IsSeen, texts}
use Rattle.workflow_check.proofs.shape.second_seen.Given as goal

-- behind the names that were seen, the first is that of the names that are left
abbrev pub invariant-loop-i : goal.invariant-loop-i
invariant-loop-i l = IsSeen l.seen.keys l.i (drop l.i (texts l.names)) (second_from 0 [] (texts l.names))
