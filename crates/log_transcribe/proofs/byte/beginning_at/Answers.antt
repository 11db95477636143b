use Rattle.log_transcribe.proofs.ByteLaws.{no_other, begins_nowhere, begins_not}
use Rattle.log_transcribe.proofs.byte.beginning_at.Goals as goal

pub returns-in_default : goal.returns-in_default
returns-in_default c = begins_nowhere c.args.bytes.now c.args.byte (rw (no_other c.in_ok-before.field-0 c.in_default.not-Some) at c.in_ok-before.ensures)

pub returns : goal.returns
returns c = begins_not c.args.bytes.now c.args.byte c.in-Some.before c.in-Some.behind (rw c.in-Some.is at c.in_ok-before.ensures) (c.begins.ensures.no c.if-begins.false)
