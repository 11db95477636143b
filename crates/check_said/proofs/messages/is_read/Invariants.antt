use Rattle.std.proofs.Common.{◌≡◌, length}
use Rattle.vevent.specs.Response.{response_of}
use Rattle.check_said.proofs.messages.is_read.Given as goal

-- the fault is that of the events that are left
abbrev pub invariant-loop : goal.invariant-loop
invariant-loop l = l.events.fault ≡ (response_of l.message).fault

abbrev pub decreases-loop : goal.decreases-loop
decreases-loop l = length l.events.items
