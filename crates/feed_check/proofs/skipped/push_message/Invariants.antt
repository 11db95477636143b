use Rattle.std.proofs.Common.{◌≡◌, ◌++◌}
use Rattle.std.specs.List.{flat_map}
use Rattle.feed_check.specs.Skipped.{skipped_at, skipped_in}
use Rattle.feed_check.proofs.skipped.push_message.Given as goal

-- those so far, and those of the events that are left, are the whole
abbrev pub invariant-loop-event : goal.invariant-loop-event
invariant-loop-event l = l.skipped.items ++ flat_map (skipped_at l.number) l.event-iterator ≡ l.fn.skipped.items ++ skipped_in l.number l.fn.message
