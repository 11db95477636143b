use Rattle.std.proofs.Common.{◌≡◌}
use Rattle.source_feed.proofs.prepared.are_same.Given as goal

-- the lists are equal exactly where the touches that are still to come are
abbrev pub invariant-loop-touch : goal.invariant-loop-touch
invariant-loop-touch l = (l.touches.rest.now ≡ l.others.rest.now → l.fn.one ≡ l.fn.other) × (l.fn.one ≡ l.fn.other → l.touches.rest.now ≡ l.others.rest.now)
