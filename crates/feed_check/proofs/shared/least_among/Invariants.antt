use Rattle.std.proofs.Common.{◌≡◌, drop}
use Rattle.feed_check.specs.Private.Replayed.{row_in}
use Rattle.feed_check.specs.Shared.{shared_among}
use Rattle.feed_check.proofs.shared.least_among.Given as goal

-- the least so far and that of the touches that are left are the whole
abbrev pub invariant-loop-touch : goal.invariant-loop-touch
invariant-loop-touch l = shared_among (row_in l.others) l.i l.best (drop l.touch-index l.touches) ≡ shared_among (row_in l.others) l.i l.fn.best l.touches
