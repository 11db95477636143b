-- A plan over the same tables with other decisions: another filter of the same rows (this profile).
use Rattle.std.specs.Prelude.{List}
use Rattle.filter_rule.specs.PlanValue.{PlanValue}
use Rattle.filter_rule.specs.declared.decision.Decision.{Decision}
use Rattle.source_feed.specs.Planned.{FeedValue}

-- the same keyspace, shard and tables
abbrev pub deciding : PlanValue → List Decision → PlanValue
deciding plan decisions = record plan { decisions = decisions }

-- the same groups
abbrev pub feed_deciding : FeedValue → List Decision → FeedValue
feed_deciding feed decisions = record { plan = deciding feed.plan decisions; groups = feed.groups }
