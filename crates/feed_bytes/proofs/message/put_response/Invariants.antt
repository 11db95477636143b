use Rattle.std.proofs.Common.{◌≡◌, ◌++◌, map, drop}
use Rattle.proto_wire.specs.Writing.{Begins}
use Rattle.event_laws.specs.WrittenMessages.{written_response}
use Rattle.feed_bytes.proofs.message.put_response.Given as goal

-- what is written, and what those are written as that are still to come, is what all are written as
abbrev pub invariant-loop-event : goal.invariant-loop-event
invariant-loop-event l =
    (l.out.items ++ written_response (map (λ event. event.now) (drop l.event-index l.events)) ≡ l.fn.out.items ++ written_response (map (λ event. event.now) l.fn.events))
    × Begins l.fn.out.items l.out.items
