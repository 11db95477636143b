-- A feed whose first groups are compacted: what stands in their place, and what the feed is then (this profile).
use Rattle.std.specs.Prelude.{◌≡◌, ℕ, ◌-◌, ◌<◌, ◌≤◌, List, length, reverse, map, false, Ok}
use Rattle.std.specs.List.{list_any, filter_map, flat_map}
use Rattle.pk_copy.specs.KeyValue.{KeyValue}
use Rattle.pk_copy.specs.Marks.{Marks}
use Rattle.vevent.specs.EventValue.{EventValue}
use Rattle.source_feed.specs.GroupValue.{Position}
use Rattle.source_feed.specs.Grammar.{changes_at}
use Rattle.source_feed.specs.Image.{ImageRows}
use Rattle.source_feed.specs.Planned.{source_of, differs, planned_change, planned_groups, FeedValue}
use Rattle.source_feed.specs.Positions.{IsNumberAt}
use Rattle.source_feed.specs.SoundGroups.{sound_groups}
use Rattle.source_feed.specs.Touches.{PreparedValue}
use Rattle.board_laws.specs.Cut.{cut_of}
use Rattle.board_laws.specs.KeptRows.{kept_rows}
use Rattle.checkpoint_laws.specs.Resumed.{resumed_state}
use Rattle.event_laws.specs.BaseEvents.{CanStandFor}
use Rattle.event_laws.specs.Laws.{groups_to_end, groups_in_front}
use Rattle.compaction_laws.specs.Compacted.{compacted, IsBaseOf, StaysFrom}
use Rattle.compaction_laws.specs.Base.{IsLeft, insert_of}

-- the feed is what these events say under its plan
abbrev pub IsFeedOf : FeedValue → List EventValue → Type 0
IsFeedOf feed events = planned_groups feed.plan events (groups_to_end (source_of feed.plan) events) ≡ Ok feed.groups

-- how many groups of a feed some of its events make
abbrev pub groups_to : FeedValue → List EventValue → ℕ
groups_to feed front = groups_in_front (source_of feed.plan) front

-- FIELDs, ROWs and a position are a base for the front of a feed's events: they can stand for it; its groups are sound; the
-- FIELDs don't differ from the plan; and of the planned tables the ROWs insert just the rows that these groups leave.
pub record IsBaseFor (feed : FeedValue) (front fields rows : List EventValue) (place : EventValue) (position : Position) (inserted : ImageRows) : Type 0 where
  pub stands : CanStandFor (source_of feed.plan) (reverse front) fields rows place position
  pub sound : groups_to feed front ≤ length (sound_groups feed)
  pub same_fields : list_any (differs feed.plan) fields ≡ false
  pub left : IsLeft (sound_groups feed) (groups_to feed front) inserted
  pub inserts : filter_map (planned_change feed.plan) (flat_map (changes_at (source_of feed.plan)) rows) ≡ map insert_of inserted

-- The events are those of a feed of which the first groups are compacted, so many fewer: they open under its plan; its sound
-- groups are a base and the old ones behind it, numbered on; and from the base on each group's position is known and is that
-- of the old number, and a target that stands there keeps what it kept.
pub record IsCompactedFeed (old : FeedValue) (fewer : ℕ) (events : List EventValue) : Type 0 where
  pub new : FeedValue
  pub same_plan : new.plan ≡ old.plan
  pub opens : IsFeedOf new events
  pub base : PreparedValue
  pub is_base : IsBaseOf (sound_groups old) fewer base
  pub groups : sound_groups new ≡ compacted (sound_groups old) fewer base
  pub stays : StaysFrom (sound_groups old) fewer base
  pub numbers : (n : ℕ) (position : Position) → fewer < n → IsNumberAt old position n → IsNumberAt new position (n - fewer)
  pub many : (n : ℕ) → fewer < n → n ≤ length (sound_groups old) → n - fewer ≤ length (sound_groups new)
  pub rows : (n : ℕ) → fewer < n → kept_rows new.plan (sound_groups new) (n - fewer) ≡ kept_rows old.plan (sound_groups old) n
  pub cuts : (n : ℕ) (marks : Marks) (key : KeyValue) → fewer < n → cut_of (resumed_state new marks (n - fewer)) key ≡ cut_of (resumed_state old marks n) key
