use Rattle.log_values.proofs.BigLaws.{IsPlain}
use Rattle.log_values.proofs.decimal.group_number.Given as goal

abbrev pub invariant-loop-i : goal.invariant-loop-i
invariant-loop-i l = IsPlain l.fn.bytes l.fn.place l.i l.number
