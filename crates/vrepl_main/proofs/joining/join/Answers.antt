use Rattle.std.proofs.Common.{arith}
use Rattle.vrepl_main.proofs.CommandLaws.{ends_printed, ends_refused}
use Rattle.vrepl_main.proofs.HandedOnLaws.{writes_joined}
use Rattle.vrepl_main.proofs.joining.join.Goals as goal

pub returns-in-Ok-clause-ends : goal.returns-in-Ok-clause-ends
returns-in-Ok-clause-ends g c = ends_printed _ _ _ c.in-Ok.ensures.printed

pub returns-in-Err-clause-ends : goal.returns-in-Err-clause-ends
returns-in-Err-clause-ends g c = ends_refused _ _ _ _ c.refuse_unjoined.ensures.status (c.in-Err.unjoined, c.in-Err.ensures.refused, c.refuse_unjoined.ensures.line)

pub returns-in-Ok-clause-right : goal.returns-in-Ok-clause-right
returns-in-Ok-clause-right g c = λ zero. writes_joined c.args.inputs.now _ _ c.in-Ok.ensures.printed

pub returns-in-Err-clause-right : goal.returns-in-Err-clause-right
returns-in-Err-clause-right g c = λ zero. absurd (omega (arith, zero, c.refuse_unjoined.ensures.status))
