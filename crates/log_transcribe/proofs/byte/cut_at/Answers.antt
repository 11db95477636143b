use Rattle.std.proofs.Common.{sym, ◌∙◌, arith}
use Rattle.log_events.specs.Log.{log_value}
use Rattle.log_transcribe.proofs.ByteLaws.{cut_is, none_there}
use Rattle.log_transcribe.proofs.byte.cut_at.Goals as goal

pub returns : goal.returns
returns c =
    cut_is c.args.bytes.now c.args.byte c.in_ok-events.events c.in_ok-transactions.transactions c.in_ok-transactions.end (log_value c.in-Ok.log) (log_value c.in-Ok-log_of.log) (omega (arith, c.if-bytes-byte.false))
    (rw c.split_at.ensures.front at c.in-Ok.ensures) (c.in_ok-events.ensures.fault ∙ none_there c.in_ok-events.fault (sym c.is_some.ensures ∙ c.if-is_some.false)) c.in_ok-events.ensures.many
    (rw c.split_at.ensures.front at c.in-Ok-log_of.ensures) (rw c.new.ensures.reading at c.in_ok-transactions.ensures.many) (rw c.new.ensures.reading at c.in_ok-transactions.ensures.fault)
