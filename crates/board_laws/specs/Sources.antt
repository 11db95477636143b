-- The headline: what the target has of each stream is what its source has (this profile).
use Rattle.std.specs.Prelude.{◌≡◌, ◌↔◌, ℕ, ◌<◌, ◌≤◌, List, length, take, Some, IsTrue, slice_get}
use Rattle.pk_copy.specs.KeyOrder.{key_cmp}
use Rattle.pk_copy.specs.KeyValue.{KeyValue}
use Rattle.pk_copy.specs.Marks.{is_inside}
use Rattle.target_tables.specs.Contents.{value_at}
use Rattle.target_tables.specs.Rising.{IsRising}
use Rattle.source_feed.specs.GroupValue.{Position}
use Rattle.source_feed.specs.History.{KeptRow, kept_at}
use Rattle.source_feed.specs.Planned.{FeedValue}
use Rattle.source_feed.specs.Positions.{IsNumberAt}
use Rattle.source_feed.specs.SoundGroups.{sound_groups}
use Rattle.board_laws.specs.Allowed.{last_position}
use Rattle.board_laws.specs.Meaning.{State, Meaning}

-- ---- positions

-- the position at which a stream's rows stand: that of the last applied group; at first the empty set
abbrev pub applied_position : State → Position
applied_position state = last_position (take state.applied state.list)

-- ---- rows

-- A stream shows its source: a row stands for it at a key exactly where the groups of its feed up to the one at the
-- stream's recorded position, all of them sound, leave one there of which these are the kept columns, it passes the
-- filter, and its key is copied.
pub record ShowsSource (feed : FeedValue) (board : Meaning) (s : ℕ) : Type 0 where
  pub state : State
  pub stream : slice_get board.streams s ≡ Some state
  pub number : ℕ
  pub position : IsNumberAt feed (applied_position state) number
  pub sound : number ≤ length (sound_groups feed)
  pub rows : (key : KeyValue) (row : KeptRow)
      → (value_at key_cmp board.rows key ≡ Some (s, row)) ↔ (IsTrue (is_inside state.marks key) × (kept_at feed.plan (sound_groups feed) number key ≡ Some row))

-- the same of a stream whose feed is the one of its number
pub record ShowsItsSource (feeds : List FeedValue) (board : Meaning) (s : ℕ) : Type 0 where
  pub feed : FeedValue
  pub fed : slice_get feeds s ≡ Some feed
  pub shows : ShowsSource feed board s

-- every stream of a board shows its source
abbrev pub AllShowTheirSources : List FeedValue → Meaning → Type 0
AllShowTheirSources feeds board = (s : ℕ) (state : State) → slice_get board.streams s ≡ Some state → ShowsItsSource feeds board s

-- ---- a whole board

-- A board shows all its sources: there is a feed, and a stream for each feed; each feed's stream shows it; and the rows,
-- by rising key, are of these streams alone. A board of no streams shows none.
pub record ShowAll (feeds : List FeedValue) (board : Meaning) : Type 0 where
  pub some : 1 ≤ length feeds
  pub count : length board.streams ≡ length feeds
  pub shows : (s : ℕ) (feed : FeedValue) → slice_get feeds s ≡ Some feed → ShowsSource feed board s
  pub rising : IsRising key_cmp board.rows
  pub closed : (key : KeyValue) (s : ℕ) (row : KeptRow) → value_at key_cmp board.rows key ≡ Some (s, row) → s < length feeds
