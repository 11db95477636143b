use Rattle.std.proofs.Common.{◌-◌, length}
use Rattle.apply_core.specs.Private.Beside.{Passes, OfFirst}
use Rattle.apply_core.proofs.beside.first_not.Given as goal

-- the streams so far pass
abbrev pub invariant-loop-s : goal.invariant-loop-s
invariant-loop-s l = OfFirst (Passes l.test) l.s l.a l.b

abbrev pub decreases-loop-s : goal.decreases-loop-s
decreases-loop-s l = length l.a - l.s
