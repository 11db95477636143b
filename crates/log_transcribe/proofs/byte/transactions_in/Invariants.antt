use Rattle.std.proofs.Common.{◌≡◌, ◌+◌, length}
use Rattle.log_transcribe.proofs.byte.transactions_in.Given as goal

-- those so far are counted
abbrev pub invariant-loop-more : goal.invariant-loop-more
invariant-loop-more l = (length l.fn.transactions.reading.items ≡ l.many + length l.transactions.reading.items) × (l.fn.transactions.reading.fault ≡ l.transactions.reading.fault)

abbrev pub decreases-loop-more : goal.decreases-loop-more
decreases-loop-more l = length l.transactions.reading.items
