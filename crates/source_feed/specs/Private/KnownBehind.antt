-- What a feed's end keeps of its bytes so far.
use Rattle.std.specs.Prelude.{◌≡◌, ℕ, ◌+◌, ◌-◌, ◌≤◌, List, [], length, reverse, slice_get, Some}
use Rattle.std.specs.Option.{option_map, option_map_or}
use Rattle.gtid_set.specs.Position.{IsCanonical}
use Rattle.source_feed.specs.declared.feed_end.FeedEnd.{FeedEnd}
use Rattle.source_feed.specs.GroupValue.{Position}
use Rattle.source_feed.specs.EventList.{events_of_feed}
use Rattle.source_feed.specs.PastEvents.{PastEvents, width_of, body_position}
use Rattle.source_feed.specs.Groups.{seen, groups_of}
use Rattle.source_feed.specs.Planned.{PlannedGroupValue, FeedValue, source_of}
use Rattle.source_feed.specs.Private.Start.{reached_in}
use Rattle.source_feed.specs.Private.FeedTables.{width_in, names_in, counted, AreNumbered}

-- the events of a feed as the past behind its end
abbrev pub past_of : List ℕ → PastEvents
past_of bytes = reverse (events_of_feed bytes).items

-- the position of the last group, or the empty one
abbrev pub reached_by : List PlannedGroupValue → Position
reached_by groups = option_map_or (λ (group : PlannedGroupValue). group.position) (slice_get groups (length groups - 1)) []

-- The tables with the columns that are in force, and how many bytes there are. The last group of the feed has the position
-- that is the union of all.
pub record KnownBehind (bytes : List ℕ) (feed : FeedValue) (end : FeedEnd) : Type 0 where
  pub many : end.length ≡ length bytes
  pub room : length feed.groups + length (names_in end.tables) ≤ length bytes
  pub widths : (table : List ℕ) → width_in end.tables table ≡ option_map counted (width_of (source_of feed.plan) (past_of bytes) table)
  pub numbers : AreNumbered (Some feed.plan) end.tables
  pub last : reached_in (groups_of (source_of feed.plan) (past_of bytes)) ≡ seen (source_of feed.plan) (past_of bytes)
  pub canonical : IsCanonical (seen (source_of feed.plan) (past_of bytes))
  pub placed : (position : Position) → body_position (source_of feed.plan) (past_of bytes) ≡ Some position → IsCanonical position
