use Rattle.std.proofs.Common.{drop}
use Rattle.log_values.proofs.DecimalLaws.{ShowsMore}
use Rattle.log_values.proofs.decimal.put_shown.Given as goal

abbrev pub invariant-loop-digit : goal.invariant-loop-digit
invariant-loop-digit l = ShowsMore l.fn.out.items l.out.items l.fn.started l.begun l.digits (drop l.digit-index l.digits)
