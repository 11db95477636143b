-- Streams that read their feeds' groups in order, and the rows of their targets (this profile).
use Rattle.std.specs.Prelude.{◌≡◌, ℕ, List, take, Some, IsTrue, slice_get}
use Rattle.pk_copy.specs.KeyValue.{KeyValue}
use Rattle.pk_copy.specs.Marks.{is_inside}
use Rattle.source_feed.specs.History.{KeptRow, kept_at}
use Rattle.source_feed.specs.Planned.{FeedValue, IsFeed}
use Rattle.source_feed.specs.SoundGroups.{sound_groups}
use Rattle.board_laws.specs.Meaning.{State, Meaning}

-- the stream is of the feed's plan, and its read list is a beginning of the feed's groups before the first one that
-- isn't sound
pub record ReadsFeed (feed : FeedValue) (state : State) : Type 0 where
  pub plan : state.plan ≡ feed.plan
  pub length_read : ℕ
  pub list : state.list ≡ take length_read (sound_groups feed)

-- a stream's feed: the one of its number
pub record HasFeed (feeds : List FeedValue) (s : ℕ) (state : State) : Type 0 where
  pub feed : FeedValue
  pub fed : slice_get feeds s ≡ Some feed
  pub whole : IsFeed feed
  pub reads : ReadsFeed feed state

-- every stream of a board reads its feed
abbrev pub AllReadTheirFeeds : List FeedValue → Meaning → Type 0
AllReadTheirFeeds feeds board = (s : ℕ) (state : State) → slice_get board.streams s ≡ Some state → HasFeed feeds s state

-- ---- rows

-- replaying the stream's applied groups from empty tables leaves a row at the key of which these are the kept columns,
-- it passes the stream's filter, and the key is copied
pub record IsReplayed (board : Meaning) (s : ℕ) (key : KeyValue) (row : KeptRow) : Type 0 where
  pub state : State
  pub stream : slice_get board.streams s ≡ Some state
  pub copied : IsTrue (is_inside state.marks key)
  pub kept : kept_at state.plan state.list state.applied key ≡ Some row
