use Rattle.std.proofs.Common.{◌≡◌, length}
use Rattle.vevent.specs.Response.{response_of}
use Rattle.check_said.specs.Differing.{first_event}
use Rattle.check_said.proofs.field.differing_in.Given as goal

-- the first is that of the events that are left
abbrev pub invariant-loop-event : goal.invariant-loop-event
invariant-loop-event l = first_event l.plan l.events.items ≡ first_event l.plan (response_of l.message).items

abbrev pub decreases-loop-event : goal.decreases-loop-event
decreases-loop-event l = length l.events.items
