-- A feed up to a position: the groups that lie within it (MySQL manual, 'GTID Sets'; that a feed ends there is this profile's).
use Rattle.std.specs.Prelude.{◌≡◌, ◌↔◌, ℕ, ◌<◌, ◌≤◌, Bool, IsTrue, [], length, take, Some, slice_get, filter}
use Rattle.std.specs.Option.{option_map_or}
use Rattle.gtid_set.specs.Position.{IsWithin, within_of}
use Rattle.source_feed.specs.GroupValue.{Position}
use Rattle.source_feed.specs.Planned.{PlannedGroupValue, FeedValue}
use Rattle.source_feed.specs.Touches.{group_at}

-- ---- the groups

-- a group lies within a position: each pair of the group's own is one of it
abbrev pub lies_within : Position → PlannedGroupValue → Bool
lies_within position group = within_of group.position position

-- how many groups of a feed lie within a position
abbrev pub number_within : Position → FeedValue → ℕ
number_within position feed = length (filter (lies_within position) feed.groups)

-- it is the number of the last one that does, 0 where none does: just the groups up to it lie within the position
pub record IsLastWithin (position : Position) (feed : FeedValue) (number : ℕ) : Type 0 where
  pub there : number ≤ length feed.groups
  pub each : (i : ℕ) (group : PlannedGroupValue) → slice_get feed.groups i ≡ Some group → IsWithin group.position position ↔ (i < number)

-- ---- the feed's end

-- the position behind a feed: its last group's, and the empty set where it has no group
abbrev pub end_position : FeedValue → Position
end_position feed = option_map_or (λ (group : PlannedGroupValue). group.position) (group_at feed (length feed.groups)) []

-- a feed reaches a position: this lies within the one behind it
abbrev pub reaches : Position → FeedValue → Bool
reaches position feed = within_of position (end_position feed)

-- ---- a feed that ends

-- the feed up to a position: its groups up to the last that lies within it
abbrev pub feed_until : Position → FeedValue → FeedValue
feed_until position feed = record { plan = feed.plan; groups = take (number_within position feed) feed.groups }

-- a feed reaches a position, and the other one is it up to there
pub record EndsAt (position : Position) (feed ended : FeedValue) : Type 0 where
  pub reached : IsTrue (reaches position feed)
  pub number : ℕ
  pub last : number ≡ number_within position feed
  pub groups : ended.groups ≡ take number feed.groups
  pub plan : ended.plan ≡ feed.plan
