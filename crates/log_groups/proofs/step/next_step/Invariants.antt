use Rattle.std.proofs.Common.{◌≡◌, length}
use Rattle.log_groups.specs.Step.{steps_of}
use Rattle.log_groups.proofs.step.next_step.Given as goal

-- the events so far are no steps
abbrev pub invariant-loop-event : goal.invariant-loop-event
invariant-loop-event l = steps_of l.events.reading ≡ steps_of l.fn.events.reading

abbrev pub decreases-loop-event : goal.decreases-loop-event
decreases-loop-event l = length l.events.reading.items
