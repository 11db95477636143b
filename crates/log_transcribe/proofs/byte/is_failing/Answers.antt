use Rattle.log_transcribe.proofs.ByteLaws.{no_other, fails_nowhere, fails_not}
use Rattle.log_transcribe.proofs.byte.is_failing.Goals as goal

pub returns-in_default-clause-no : goal.returns-in_default-clause-no
returns-in_default-clause-no c = λ e. fails_nowhere c.args.bytes.now c.args.byte c.args.fault (rw (no_other c.in_ok-before.field-0 c.in_default.not-Some) at c.in_ok-before.ensures)

pub returns-clause-no : goal.returns-clause-no
returns-clause-no c = λ e. fails_not c.args.bytes.now c.args.byte c.args.fault c.in-Some.before c.in-Some.behind (rw c.in-Some.is at c.in_ok-before.ensures) (c.fails.ensures.no e)
