use Rattle.std.proofs.Common.{◌-◌, length}
use Rattle.feed_ends.proofs.EndLaws.{StandsAt}
use Rattle.feed_ends.proofs.ending.end_each.Given as goal

-- the feeds so far are ended
abbrev pub invariant-loop-s : goal.invariant-loop-s
invariant-loop-s l = StandsAt l.ends l.fn.feeds l.s l.feeds

abbrev pub decreases-loop-s : goal.decreases-loop-s
decreases-loop-s l = length l.feeds - l.s
