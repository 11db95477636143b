use Rattle.std.proofs.Common.{◌≡◌, ◌-◌}
use Rattle.crossbeam_channel.specs.Claims.{view}
use Rattle.feed_readers.specs.ReaderRule.{last_sent}
use Rattle.feed_readers.proofs.reading.read_to.Given as goal

-- the last group that was sent or was read before
abbrev pub invariant-loop-sent : goal.invariant-loop-sent
invariant-loop-sent g l = last_sent (view l.end.pass) ≡ l.sent

abbrev pub decreases-loop-sent : goal.decreases-loop-sent
decreases-loop-sent g l = l.groups - l.sent
