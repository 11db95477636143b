use Rattle.log_transcribe.proofs.ByteLaws.{no_other, none_before, none_next, none_behind}
use Rattle.log_transcribe.proofs.byte.cuts_at.Goals as goal

pub returns-in_default : goal.returns-in_default
returns-in_default c = none_before c.args.bytes.now c.args.byte (rw (no_other c.in_ok-before.field-0 c.in_default.not-Some) at c.in_ok-before.ensures)

pub returns-in_default-next_at : goal.returns-in_default-next_at
returns-in_default-next_at c = none_next c.args.bytes.now c.args.byte c.in_default-next_at.ensures

pub returns-in_default-2 : goal.returns-in_default-2
returns-in_default-2 c = none_behind c.args.bytes.now c.args.byte c.in-Some-next_at.next c.in-Some-next_at.ensures (rw (no_other c.in_ok-behind.field-0 c.in_default-2.not-Some) at c.in_ok-behind.ensures)
