use Rattle.log_transcribe.proofs.ByteLaws.{no_other, ends_nowhere}
use Rattle.log_transcribe.proofs.byte.end_at.Goals as goal

pub returns-in_default : goal.returns-in_default
returns-in_default c = ends_nowhere c.args.bytes.now c.args.byte (rw (no_other c.in_ok-before.field-0 c.in_default.not-Some) at c.in_ok-before.ensures)
