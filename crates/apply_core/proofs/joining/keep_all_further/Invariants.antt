use Rattle.std.proofs.Common.{◌-◌, length}
use Rattle.apply_core.proofs.JoinLaws.{AreFurther}
use Rattle.apply_core.proofs.joining.keep_all_further.Given as goal

-- up to some stream the states are the further ones
abbrev pub invariant-loop-s : goal.invariant-loop-s
invariant-loop-s l = AreFurther l.fn.a l.fn.b l.s l.a l.b

abbrev pub decreases-loop-s : goal.decreases-loop-s
decreases-loop-s l = length l.a - l.s
