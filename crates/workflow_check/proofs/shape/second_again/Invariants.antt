use Rattle.std.proofs.Common.{◌≡◌, [], take, drop, map}
use Rattle.workflow_check.specs.Shape.{second_from}
use Rattle.workflow_check.proofs.shape.second_again.Given as goal

-- the first is that of the names that are left, behind those so far
abbrev pub invariant-loop-i : goal.invariant-loop-i
invariant-loop-i l = second_from l.i (map (λ one. one.now) (take l.i l.names)) (map (λ one. one.now) (drop l.i l.names)) ≡ second_from 0 [] (map (λ one. one.now) l.names)
