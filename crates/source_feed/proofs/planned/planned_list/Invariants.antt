use Rattle.std.proofs.Common.{◌≡◌}
use Rattle.std.specs.List.{filter_map}
use Rattle.source_feed.specs.Private.FeedTables.{numbers_in}
use Rattle.source_feed.specs.Private.KeptGroups.{numbered}
use Rattle.source_feed.proofs.planned.planned_list.Given as goal

-- the changes so far are those of the plan's tables
abbrev pub invariant-loop-change : goal.invariant-loop-change
invariant-loop-change l = l.under.items ≡ filter_map (numbered (numbers_in l.tables)) l.yielded
