use Rattle.std.proofs.Common.{length}
use Rattle.printing.specs.Private.Progress.{IsWrittenTo}
use Rattle.printing.proofs.put.put_all.Given as goal

-- what is written and what is left are the whole
abbrev pub invariant-loop-rest : goal.invariant-loop-rest
invariant-loop-rest g l = IsWrittenTo (g.O.Out.written l.fn.out) (g.O.Out.written l.out) l.fn.bytes l.rest

abbrev pub decreases-loop-rest : goal.decreases-loop-rest
decreases-loop-rest g l = length l.rest
