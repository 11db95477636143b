use Rattle.std.proofs.Common.{length}
use Rattle.vdiff.specs.Private.Same.{IsBehindSame}
use Rattle.vdiff.proofs.walk.behind_same.Given as goal

abbrev pub invariant-loop-ours : goal.invariant-loop-ours
invariant-loop-ours l = IsBehindSame l.fn.source l.fn.target l.left l.right

abbrev pub decreases-loop-ours : goal.decreases-loop-ours
decreases-loop-ours l = length l.left
