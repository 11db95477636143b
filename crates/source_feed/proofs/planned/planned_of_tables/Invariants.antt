use Rattle.std.proofs.Common.{◌≡◌, map}
use Rattle.source_feed.specs.Private.FeedTables.{numbers_in}
use Rattle.source_feed.specs.Private.KeptGroups.{numbered_group}
use Rattle.source_feed.proofs.planned.planned_of_tables.Given as goal

-- the groups so far are those under the plan
abbrev pub invariant-loop-group : goal.invariant-loop-group
invariant-loop-group l = l.under.items ≡ map (numbered_group (numbers_in l.tables)) l.yielded
