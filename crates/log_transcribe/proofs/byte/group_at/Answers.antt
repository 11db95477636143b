use Rattle.std.proofs.Common.{sym, ◌∙◌}
use Rattle.log_transcribe.proofs.ByteLaws.{prepared_not}
use Rattle.log_transcribe.proofs.byte.group_at.Goals as goal

pub returns-in_ok-end-in-StillPrepared-clause-no : goal.returns-in_ok-end-in-StillPrepared-clause-no
returns-in_ok-end-in-StillPrepared-clause-no c = rw c.in-StillPrepared.is (λ e. prepared_not c.args.bytes.now c.args.byte c.in_ok-end-in-StillPrepared.end c.in_ok-end-in-StillPrepared.ensures (sym c.is_some.ensures ∙ e))
