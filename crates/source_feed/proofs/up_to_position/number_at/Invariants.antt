use Rattle.source_feed.proofs.PositionLaws.{NoneUpTo}
use Rattle.source_feed.proofs.up_to_position.number_at.Given as goal

-- none of the groups so far has the position
abbrev pub invariant-loop-i : goal.invariant-loop-i
invariant-loop-i l = NoneUpTo l.feed l.position l.i
