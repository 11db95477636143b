use Rattle.std.proofs.Common.{◌-◌, length, map}
use Rattle.std.specs.Arc.{arc_value}
use Rattle.apply_core.specs.Private.Beside.{AreSameFirst}
use Rattle.apply_core.proofs.beside.begins.Given as goal

-- the groups so far are the same
abbrev pub invariant-loop-i : goal.invariant-loop-i
invariant-loop-i l = AreSameFirst l.i (map arc_value l.front) (map arc_value l.whole)

abbrev pub decreases-loop-i : goal.decreases-loop-i
decreases-loop-i l = length l.front - l.i
