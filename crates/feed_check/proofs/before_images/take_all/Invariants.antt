use Rattle.std.proofs.Common.{List, ◌++◌, reverse}
use Rattle.feed_check.specs.KeyedChanges.{KeyedChangeValue}
use Rattle.feed_check.specs.Private.Replayed.{IsReplayed}
use Rattle.feed_check.proofs.before_images.take_all.Given as goal

-- the changes so far are replayed
abbrev pub invariant-loop-change : goal.invariant-loop-change
invariant-loop-change l =
    (earlier : List KeyedChangeValue) → IsReplayed (reverse earlier) l.fn.replay.rows l.fn.replay.findings.items → IsReplayed (reverse (earlier ++ l.yielded)) l.replay.rows l.replay.findings.items
