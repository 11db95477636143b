use Rattle.log_values.proofs.BigLaws.{IsBig}
use Rattle.log_values.proofs.big.big_at.Given as goal

abbrev pub invariant-loop-i : goal.invariant-loop-i
invariant-loop-i l = IsBig l.fn.place l.i l.fn.bytes l.number
