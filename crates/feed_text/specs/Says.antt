-- A feed that says a text: `show` of it prints just this text (this profile).
use Rattle.std.specs.Prelude.{◌≡◌, ℕ, List, map, Ok}
use Rattle.filter_rule.specs.PlanValue.{PlanValue}
use Rattle.source_feed.specs.GroupValue.{GroupValue}
use Rattle.source_feed.specs.Groups.{groups}
use Rattle.source_feed.specs.Planned.{source_of, planned_group, groups_under}
use Rattle.source_feed.specs.SourceValue.{SourceValue}
use Rattle.feed_text.specs.Shown.{shown}

-- the bytes are a feed of this source, and its groups are those that the text says
pub record Says (source : SourceValue) (feed text : List ℕ) : Type 0 where
  pub all : List GroupValue
  pub read : groups feed source ≡ Ok all
  pub as_text : shown all ≡ text

-- the same under a plan, which takes it as a feed of its stream: each FIELD of a table of the plan has the plan's columns
pub record SaysUnder (plan : PlanValue) (feed text : List ℕ) : Type 0 where
  pub says : Says (source_of plan) feed text
  pub under : groups_under feed plan ≡ Ok (map (planned_group plan) says.all)
