use Rattle.feed_ends.proofs.WithinLaws.{AllWithin}
use Rattle.feed_ends.proofs.at_position.last_within.Given as goal

-- the groups so far lie within the position
abbrev pub invariant-loop-i : goal.invariant-loop-i
invariant-loop-i l = AllWithin l.feed l.position l.i
