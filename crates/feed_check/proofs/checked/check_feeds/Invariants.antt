use Rattle.std.proofs.Common.{◌≡◌, drop, map}
use Rattle.feed_check.specs.Checked.{checked_feeds}
use Rattle.feed_check.proofs.ListLaws.{in_front}
use Rattle.feed_check.proofs.checked.check_feeds.Given as goal

-- the checks so far stand in front of those that are left
abbrev pub invariant-loop-i : goal.invariant-loop-i
invariant-loop-i g l = checked_feeds (map (λ one. one.now) l.bytes) l.feeds ≡ in_front l.checks.items (checked_feeds (drop l.i (map (λ one. one.now) l.bytes)) (drop l.i l.feeds))
