use Rattle.std.proofs.Common.{◌≡◌, ◌+◌, map, length, drop}
use Rattle.event_laws.specs.WrittenMessages.{written_response}
use Rattle.feed_bytes.proofs.message.response_size.Given as goal

-- what is counted, and what those take that are still to come, is what all take
abbrev pub invariant-loop-event : goal.invariant-loop-event
invariant-loop-event l = l.size + length (written_response (map (λ event. event.now) (drop l.event-index l.events))) ≡ length (written_response (map (λ event. event.now) l.fn.events))
