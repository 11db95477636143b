-- Streams at their feeds' ends, and the rows that the feeds keep together (this profile).
use Rattle.std.specs.Prelude.{◌≡◌, ◌≢◌, ℕ, List, [], ◌∷◌, length, Option, Some, None, slice_get}
use Rattle.std.specs.Option.{option_or}
use Rattle.pk_copy.specs.KeyOrder.{key_cmp}
use Rattle.pk_copy.specs.KeyValue.{KeyValue}
use Rattle.stream_core.specs.declared.phase.Phase.TheVariants.{Running}
use Rattle.stream_core.specs.Standing.{phase_of}
use Rattle.target_tables.specs.Rising.{IsRising}
use Rattle.dump.specs.DumpRowsValue.{DumpRowsValue, row_with_key}
use Rattle.source_feed.specs.History.{KeptRow, kept_at}
use Rattle.source_feed.specs.Planned.{FeedValue}
use Rattle.source_feed.specs.SoundGroups.{sound_groups}
use Rattle.board_laws.specs.Meaning.{State, Meaning}
use Rattle.board_laws.specs.Lawful.{standing_of}
pub use Rattle.board_laws.specs.FedBoards.{IsFedBoard}
use Rattle.apply_core.specs.Shown.{all_rows}

-- ---- the end of a feed

-- the stream has ended: all its tables are copied, and all groups of its feed are read and applied
pub record HasEnded (feed : FeedValue) (state : State) : Type 0 where
  pub running : phase_of (standing_of state) ≡ Running
  pub read : length state.list ≡ length feed.groups
  pub applied : state.applied ≡ length feed.groups

-- stream s of a board has ended
abbrev pub StreamHasEnded : List FeedValue → ℕ → Meaning → Type 0
StreamHasEnded feeds s board = (feed : FeedValue) (state : State) → slice_get feeds s ≡ Some feed → slice_get board.streams s ≡ Some state → HasEnded feed state

-- each stream of a board has ended
abbrev pub AllHaveEnded : List FeedValue → Meaning → Type 0
AllHaveEnded feeds board = (s : ℕ) (feed : FeedValue) (state : State) → slice_get feeds s ≡ Some feed → slice_get board.streams s ≡ Some state → HasEnded feed state

-- all groups of each feed are sound
abbrev pub AreSound : List FeedValue → Type 0
AreSound feeds = (s : ℕ) (feed : FeedValue) → slice_get feeds s ≡ Some feed → length (sound_groups feed) ≡ length feed.groups

-- ---- some streams alone

-- the stream is one of these
abbrev pub IsNamedStream : List ℕ → ℕ → Type 0
IsNamedStream streams s = (i : ℕ) × (slice_get streams i ≡ Some s)

-- each of these streams of a board has ended
abbrev pub HaveEnded : List ℕ → List FeedValue → Meaning → Type 0
HaveEnded streams feeds board =
    (s : ℕ) (feed : FeedValue) (state : State) → IsNamedStream streams s → slice_get feeds s ≡ Some feed → slice_get board.streams s ≡ Some state → HasEnded feed state

-- each stream but these is as it was
abbrev pub AreAsBefore : List ℕ → Meaning → Meaning → Type 0
AreAsBefore streams old new = (s : ℕ) → ¬ (IsNamedStream streams s) → slice_get new.streams s ≡ slice_get old.streams s

-- each stream but the one of this number is as it was
abbrev pub OthersStay : ℕ → Meaning → Meaning → Type 0
OthersStay s old new = (t : ℕ) → t ≢ s → slice_get new.streams t ≡ slice_get old.streams t

-- ---- the rows of whole feeds

-- the kept columns of the row that all groups of a feed left at a key, if it passes the filter
abbrev pub kept_of_feed : FeedValue → KeyValue → Option KeptRow
kept_of_feed feed key = kept_at feed.plan (sound_groups feed) (length feed.groups) key

-- the row that one of the feeds keeps at a key: the first that keeps one there
abbrev pub kept_by : List FeedValue → KeyValue → Option KeptRow
kept_by [] key = None
kept_by (feed ∷ later) key = option_or (kept_of_feed feed key) (kept_by later key)

-- no two of the feeds keep a row at one key
abbrev pub KeepApart : List FeedValue → Type 0
KeepApart feeds =
    (s t : ℕ) (one other : FeedValue) (key : KeyValue) → slice_get feeds s ≡ Some one → slice_get feeds t ≡ Some other
    → kept_of_feed one key ≢ None → kept_of_feed other key ≢ None → s ≡ t

-- rows by rising key that are just those which the feeds keep, each of one feed alone
pub record IsRowsUnion (feeds : List FeedValue) (rows : DumpRowsValue) : Type 0 where
  pub rising : IsRising key_cmp rows
  pub each_key : (key : KeyValue) → row_with_key rows key ≡ kept_by feeds key
  pub apart : KeepApart feeds

-- ---- laws

-- where all streams have ended, the rows of the target are the union of what the feeds keep
abbrev pub EndedBoardsHaveTheUnion : Type 0
EndedBoardsHaveTheUnion = (feeds : List FeedValue) (board : Meaning) → IsFedBoard feeds board → AllHaveEnded feeds board → IsRowsUnion feeds (all_rows board.rows)

-- and all groups of the feeds are sound
abbrev pub EndedFeedsAreSound : Type 0
EndedFeedsAreSound = (feeds : List FeedValue) (board : Meaning) → IsFedBoard feeds board → AllHaveEnded feeds board → AreSound feeds

-- there is one such list of rows
abbrev pub UnionsAreOne : Type 0
UnionsAreOne = (feeds : List FeedValue) (one other : DumpRowsValue) → IsRowsUnion feeds one → IsRowsUnion feeds other → one ≡ other
