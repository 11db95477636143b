use Rattle.std.proofs.Common.{map}
use Rattle.std.specs.Arc.{arc_value}
use Rattle.source_feed.specs.History.{IsPassed}
use Rattle.feed_check.proofs.last_rows.last_rows.Given as goal

-- the image is that of the groups so far
abbrev pub invariant-loop-group : goal.invariant-loop-group
invariant-loop-group g l = IsPassed (map arc_value l.groups) l.group-index l.image
