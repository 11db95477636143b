-- Bytes that stand in the place of a feed's, whose first groups are compacted (this profile).
use Rattle.std.specs.Prelude.{◌≡◌, ℕ, ◌≤◌, List, length, map, reverse, Some, Ok}
use Rattle.std.specs.List.{AllByRecursion}
use Rattle.filter_rule.specs.PlanValue.{PlanValue}
use Rattle.vevent.specs.EventValue.{EventValue}
use Rattle.source_feed.specs.Groups.{Block}
use Rattle.source_feed.specs.PastEvents.{position_of}
use Rattle.source_feed.specs.Planned.{source_of, groups_under, FeedValue}
use Rattle.source_feed.specs.SoundGroups.{sound_groups}
use Rattle.event_laws.specs.BaseEvents.{base_events}
use Rattle.event_laws.specs.Cuts.{IsCut}
use Rattle.event_laws.specs.InForce.{in_force}
use Rattle.event_laws.specs.Laws.{HaveEvents}
use Rattle.compaction_laws.specs.Base.{IsLeft}
use Rattle.compaction_laws.specs.CompactedFeed.{groups_to, IsCompactedFeed}
use Rattle.compaction_laws.specs.Portions.{Portion, event_of, rows_of, IsOfOneTable}

-- Messages in the place of a feed's first events, behind which it can be cut: the FIELDs in force there, portions of the rows
-- that the groups before leave, and an event with the position of the last one.
pub record ReplacesFront (feed : FeedValue) (front : List EventValue) (base : List ℕ) : Type 0 where
  pub block : Block
  pub cut : IsCut (source_of feed.plan) (reverse front) block
  pub sound : groups_to feed front ≤ length (sound_groups feed)
  pub portions : List Portion
  pub each_portion : AllByRecursion (IsOfOneTable feed.plan) portions
  pub left : IsLeft (sound_groups feed) (groups_to feed front) (rows_of portions)
  pub place : EventValue
  pub carries : position_of (source_of feed.plan) place ≡ Some block.position
  pub have : HaveEvents base (base_events (reverse (in_force (source_of feed.plan) (reverse front))) (map event_of portions) place)

-- Bytes open under a plan, and others open under it as the same feed, of which the first groups are compacted, so many fewer.
pub record OpensCompacted (bytes : List ℕ) (plan : PlanValue) (fewer : ℕ) (written : List ℕ) : Type 0 where
  pub old : FeedValue
  pub under : old.plan ≡ plan
  pub opened : groups_under bytes plan ≡ Ok old.groups
  pub events : List EventValue
  pub have : HaveEvents written events
  pub compacted : IsCompactedFeed old fewer events
  pub opens : groups_under written plan ≡ Ok compacted.new.groups
