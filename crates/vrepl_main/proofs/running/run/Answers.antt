use Rattle.std.proofs.Common.{arith}
use Rattle.vrepl_main.proofs.CommandLaws.{ends_printed, ends_refused}
use Rattle.vrepl_main.proofs.RightLaws.{writes_right}
use Rattle.vrepl_main.proofs.SaidLaws.{writes_said}
use Rattle.vrepl_main.proofs.running.run.Goals as goal

pub returns-in-Ok-clause-ends : goal.returns-in-Ok-clause-ends
returns-in-Ok-clause-ends g c = ends_printed _ _ _ c.in-Ok.ensures.printed

pub returns-in-Err-Given-clause-ends : goal.returns-in-Err-Given-clause-ends
returns-in-Err-Given-clause-ends g c = ends_refused _ _ _ _ c.refuse.ensures.status (c.in-Err-Given.field-0, c.in-Err-Given.ensures.refused, rw c.in-Err-Given.field-0-is c.refuse.ensures.line)

pub returns-in-Err-Stream-clause-ends : goal.returns-in-Err-Stream-clause-ends
returns-in-Err-Stream-clause-ends g c = ends_refused _ _ _ _ c.refuse_run.ensures.status (c.in-Err-Stream.field-0, c.in-Err-Stream.ensures.refused, rw c.in-Err-Stream.field-0-is (rw c.deref.ensures at c.refuse_run.ensures.line))

pub returns-in-Ok-clause-right : goal.returns-in-Ok-clause-right
returns-in-Ok-clause-right g c = λ zero. writes_right c.args.inputs.now _ _ c.in-Ok.ensures.printed

pub returns-in-Err-Given-clause-right : goal.returns-in-Err-Given-clause-right
returns-in-Err-Given-clause-right g c = λ zero. absurd (omega (arith, zero, c.refuse.ensures.status))

pub returns-in-Err-Stream-clause-right : goal.returns-in-Err-Stream-clause-right
returns-in-Err-Stream-clause-right g c = λ zero. absurd (omega (arith, zero, c.refuse_run.ensures.status))

pub returns-in-Ok-clause-said : goal.returns-in-Ok-clause-said
returns-in-Ok-clause-said g c = λ zero. writes_said c.runs_are_right.ensures c.args.inputs.now _ _ (writes_right c.args.inputs.now _ _ c.in-Ok.ensures.printed)

pub returns-in-Err-Given-clause-said : goal.returns-in-Err-Given-clause-said
returns-in-Err-Given-clause-said g c = λ zero. absurd (omega (arith, zero, c.refuse.ensures.status))

pub returns-in-Err-Stream-clause-said : goal.returns-in-Err-Stream-clause-said
returns-in-Err-Stream-clause-said g c = λ zero. absurd (omega (arith, zero, c.refuse_run.ensures.status))
