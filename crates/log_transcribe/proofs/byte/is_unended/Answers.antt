use Rattle.log_transcribe.proofs.ByteLaws.{no_other, unended_nowhere, unended_unread}
use Rattle.log_transcribe.proofs.byte.is_unended.Goals as goal

pub returns-in_default-clause-no : goal.returns-in_default-clause-no
returns-in_default-clause-no c = λ e. unended_nowhere c.args.bytes.now c.args.byte (rw (no_other c.in_ok-transactions.field-0 c.in_default.not-Some) at c.in_ok-transactions.ensures)

pub returns-in_default-2-clause-no : goal.returns-in_default-2-clause-no
returns-in_default-2-clause-no c = λ e. unended_unread c.args.bytes.now c.args.byte (rw (no_other c.in_ok-whole.field-0 c.in_default-2.not-Some) at c.in_ok-whole.ensures)
