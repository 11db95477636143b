use Rattle.log_transcribe.proofs.ByteLaws.{no_other, first_nowhere}
use Rattle.log_transcribe.proofs.byte.is_first.Goals as goal

pub returns-in_default-clause-no : goal.returns-in_default-clause-no
returns-in_default-clause-no c = λ e. first_nowhere c.args.bytes.now c.args.byte (rw (no_other c.in_ok-cut.field-0 c.in_default.not-Some) at c.in_ok-cut.ensures)
