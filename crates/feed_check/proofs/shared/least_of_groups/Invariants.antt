use Rattle.std.proofs.Common.{◌≡◌, drop, map}
use Rattle.std.specs.Arc.{arc_value}
use Rattle.source_feed.specs.History.{touches_in}
use Rattle.feed_check.specs.Private.Replayed.{row_in}
use Rattle.feed_check.specs.Shared.{shared_among}
use Rattle.feed_check.proofs.shared.least_of_groups.Given as goal

-- the least so far and that of the groups that are left are the whole
abbrev pub invariant-loop-group : goal.invariant-loop-group
invariant-loop-group l = shared_among (row_in l.others) l.i l.best (touches_in (map arc_value (drop l.group-index l.groups))) ≡ shared_among (row_in l.others) l.i l.fn.best (touches_in (map arc_value l.groups))
