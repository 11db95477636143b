use Rattle.std.proofs.Common.{length}
use Rattle.vrepl.proofs.front.is_open_behind.Given as goal

abbrev pub decreases-loop-event : goal.decreases-loop-event
decreases-loop-event l = length l.events.items
