use Rattle.std.proofs.Common.{◌≡◌, ◌++◌, map}
use Rattle.compaction.proofs.base.gathered.Given as goal

-- the events so far, and those that are still left, are all
abbrev pub invariant-loop-event : goal.invariant-loop-event
invariant-loop-event l = map (λ event. event.now) l.events.items ++ l.event-iterator ≡ l.fn.others
