use Rattle.std.proofs.Common.{◌≡◌, ◌+◌, length}
use Rattle.log_transcribe.proofs.byte.events_in.Given as goal

-- those so far are counted
abbrev pub invariant-loop-more : goal.invariant-loop-more
invariant-loop-more l = (length l.fn.events.reading.items ≡ l.many + length l.events.reading.items) × (l.fn.events.reading.fault ≡ l.events.reading.fault)

abbrev pub decreases-loop-more : goal.decreases-loop-more
decreases-loop-more l = length l.events.reading.items
