-- Laws of compaction, as statements: each is the contract of a function without a body.
use Rattle.std.specs.Prelude.{◌≡◌, ◌⊎◌, ℕ, ◌+◌, ◌-◌, ◌^◌, ◌<◌, ◌≤◌, List, [], ◌++◌, length, reverse, map, Some, Ok, slice_get}
use Rattle.std.specs.List.{AllByRecursion}
use Rattle.filter_rule.specs.PlanValue.{PlanValue, table_of_name}
use Rattle.filter_rule.specs.WellFormed.{IsPlan}
use Rattle.pk_copy.specs.KeyValue.{KeyValue}
use Rattle.row_view.specs.FieldValue.{FieldValue}
use Rattle.vevent.specs.EventValue.{EventValue}
use Rattle.source_feed.specs.GroupValue.{Position}
use Rattle.source_feed.specs.Groups.{Block}
use Rattle.source_feed.specs.Image.{ImageRows}
use Rattle.source_feed.specs.PastEvents.{PastEvents, last_field, position_of}
use Rattle.source_feed.specs.Planned.{source_of, groups_under, FeedValue, IsFeed}
use Rattle.source_feed.specs.Positions.{IsNumberAt}
use Rattle.source_feed.specs.SoundGroups.{sound_groups}
use Rattle.source_feed.specs.Touches.{PreparedValue, prepared}
use Rattle.board_laws.specs.Cut.{cut_of}
use Rattle.board_laws.specs.Lawful.{IsLawful}
use Rattle.board_laws.specs.Meaning.{State, Meaning}
use Rattle.board_laws.specs.Extended.{extended_board, MayExtend}
use Rattle.board_laws.specs.Joined.{cut_rows}
use Rattle.checkpoint_laws.specs.Added.{under_plans}
use Rattle.checkpoint_laws.specs.Laws.{AreFeeds, AreWithin}
use Rattle.checkpoint_laws.specs.Refused.{plans_of_feeds}
use Rattle.checkpoint_laws.specs.Resumed.{IsResumedAt, IsResumedBoard}
use Rattle.checkpoint_laws.specs.Said.{IsCheckpoint}
use Rattle.checkpoint_laws.specs.Saved.{SavedStream, saved_of}
use Rattle.checkpoint_laws.specs.Written.{checkpoint_of}
use Rattle.event_laws.specs.BaseEvents.{base_events}
use Rattle.event_laws.specs.Cuts.{IsCut}
use Rattle.event_laws.specs.InForce.{in_force}
use Rattle.event_laws.specs.Laws.{HaveEvents}
use Rattle.compaction_laws.specs.Base.{IsLeft, base_group, AreGroupsUnder}
use Rattle.compaction_laws.specs.Compacted.{IsBaseOf, StaysFrom}
use Rattle.compaction_laws.specs.CompactedFeed.{IsFeedOf, groups_to, IsBaseFor, IsCompactedFeed}
use Rattle.compaction_laws.specs.Portions.{Portion, event_of, rows_of, IsPortion}
use Rattle.compaction_laws.specs.CompactedBytes.{ReplacesFront, OpensCompacted}
use Rattle.compaction_laws.specs.Decisions.{deciding, feed_deciding}
use Rattle.filter_rule.specs.declared.decision.Decision.{Decision}

-- from a base on a history stays what it was
abbrev pub BasesKeepHistories : Type 0
BasesKeepHistories = (history : List PreparedValue) (fewer : ℕ) (base : PreparedValue) → IsBaseOf history fewer base → StaysFrom history fewer base

-- the rows that the first groups of a history leave make a base, where they are inserted at the last one's position
abbrev pub LeftRowsAreABase : Type 0
LeftRowsAreABase =
    (plan : PlanValue) (history : List PreparedValue) (fewer : ℕ) (last : PreparedValue) (position : Position) (rows : ImageRows) → AreGroupsUnder plan history
    → slice_get history fewer ≡ Some last → position ≡ last.position → IsLeft history (fewer + 1) rows
    → (base : PreparedValue) × (prepared plan (base_group position rows) ≡ Ok base) × IsBaseOf history fewer base

-- a feed of whose events a base stands for the front is a compacted feed
abbrev pub FeedsStayWhatTheyWere : Type 0
FeedsStayWhatTheyWere =
    (feed : FeedValue) (front behind fields rows : List EventValue) (place : EventValue) (position : Position) (inserted : ImageRows) → IsFeed feed
    → IsFeedOf feed (front ++ behind) → IsBaseFor feed front fields rows place position inserted
    → IsCompactedFeed feed (groups_to feed front - 1) (base_events fields rows place ++ behind)

-- bytes that are messages with the events of a compacted feed open as that feed
abbrev pub CompactedBytesOpen : Type 0
CompactedBytesOpen =
    (old : FeedValue) (fewer : ℕ) (events : List EventValue) (c : IsCompactedFeed old fewer events) (bytes : List ℕ) → HaveEvents bytes events → length bytes < 2 ^ 31
    → groups_under bytes c.new.plan ≡ Ok c.new.groups

-- ---- checkpoints

-- a position that a compacted feed still has: the empty set, or that of a group behind those that it lacks
abbrev pub IsFromBaseOn : FeedValue → ℕ → Position → Type 0
IsFromBaseOn old fewer position = (position ≡ []) ⊎ ((n : ℕ) × (fewer < n) × IsNumberAt old position n)

-- a stream of a checkpoint goes on over another feed: it stands where the checkpoint says, under the same plan, with the
-- same marks and rows
pub record GoesOn (new : FeedValue) (saved : SavedStream) (state : State) : Type 0 where
  pub again : State
  pub resumed : IsResumedAt new saved again
  pub plan : again.plan ≡ state.plan
  pub marks : again.marks ≡ state.marks
  pub cut : (key : KeyValue) → cut_of again key ≡ cut_of state key
  pub rows : cut_rows again ≡ cut_rows state

abbrev pub CheckpointsGoOn : Type 0
CheckpointsGoOn =
    (old : FeedValue) (fewer : ℕ) (events : List EventValue) (c : IsCompactedFeed old fewer events) (saved : SavedStream) (state : State) → IsFeed old
    → IsFromBaseOn old fewer saved.position → IsResumedAt old saved state → GoesOn c.new saved state

-- a stream of a checkpoint can go on over a feed: its own, or one that is compacted no further than the stream stands
abbrev pub CanGoOn : FeedValue → SavedStream → FeedValue → Type 0
CanGoOn old saved new =
    (new ≡ old) ⊎ ((fewer : ℕ) × (events : List EventValue) × (c : IsCompactedFeed old fewer events) × (new ≡ c.new) × IsFromBaseOn old fewer saved.position)

-- the same of every stream
pub record CanAllGoOn (olds : List FeedValue) (saved : List SavedStream) (news : List FeedValue) : Type 0 where
  pub count : length news ≡ length olds
  pub whole : (s : ℕ) (old : FeedValue) → slice_get olds s ≡ Some old → IsFeed old
  pub each_stream : (s : ℕ) (old : FeedValue) (one : SavedStream) (new : FeedValue)
      → slice_get olds s ≡ Some old → slice_get saved s ≡ Some one → slice_get news s ≡ Some new → CanGoOn old one new

-- a board is made over other feeds, which has the same rows, and of each stream the same plan, marks and cut
pub record GoesOnAs (news : List FeedValue) (saved : List SavedStream) (board : Meaning) : Type 0 where
  pub again : Meaning
  pub resumed : IsResumedBoard news saved again
  pub rows : again.rows ≡ board.rows
  pub each_stream : (s : ℕ) (now was : State) → slice_get again.streams s ≡ Some now → slice_get board.streams s ≡ Some was
      → (now.plan ≡ was.plan) × (now.marks ≡ was.marks) × (cut_rows now ≡ cut_rows was)

-- a checkpoint makes the board again over compacted feeds, where it stands at positions that these still have
abbrev pub BoardsGoOn : Type 0
BoardsGoOn =
    (olds news : List FeedValue) (saved : List SavedStream) (board : Meaning) → CanAllGoOn olds saved news → IsResumedBoard olds saved board → GoesOnAs news saved board

-- ---- a table more

-- what is kept of a board says of its streams under the plans of feeds with more tables, which wait
abbrev pub saved_with_more : List FeedValue → Meaning → List SavedStream
saved_with_more feeds board = under_plans (plans_of_feeds feeds) (saved_of board)

-- A checkpoint of a board, under plans with tables appended, makes over compacted feeds the board to which these tables are added
-- over the whole feeds: where the feeds that were compacted under those plans go on from the board, and it stands at positions
-- that the compacted ones still have.
abbrev pub AddedTablesGoOn : Type 0
AddedTablesGoOn =
    (olds news : List FeedValue) (board : Meaning) → AreFeeds olds → IsLawful board → AreWithin board → length (checkpoint_of board) < 2 ^ 64 → MayExtend olds board
    → CanAllGoOn olds (saved_with_more olds board) news
    → IsCheckpoint (plans_of_feeds news) (checkpoint_of board) (saved_with_more olds board) × GoesOnAs news (saved_with_more olds board) (extended_board olds board)

-- ---- what is written

-- the history says the columns of a planned table, under one of its names
pub record SaysColumnsOf (plan : PlanValue) (history : PastEvents) (table : ℕ) (columns : List FieldValue) : Type 0 where
  pub name : List ℕ
  pub planned : table_of_name plan name ≡ Some table
  pub said : last_field (source_of plan) history name ≡ Some columns

-- the rows that the front of a feed leaves are of tables whose columns the front says, and have these columns
abbrev pub LeftRowsHaveColumns : Type 0
LeftRowsHaveColumns =
    (feed : FeedValue) (front behind : List EventValue) (rows : ImageRows) → IsFeed feed → IsFeedOf feed (front ++ behind) → groups_to feed front ≤ length (sound_groups feed)
    → IsLeft (sound_groups feed) (groups_to feed front) rows
    → AllByRecursion (λ row. (columns : List FieldValue) × SaysColumnsOf feed.plan (reverse front) row.0.table columns × (length row.1 ≡ length columns)) rows

-- the FIELDs in force behind a front, and portions of the rows that its groups leave, are a base for it
abbrev pub PortionsAreABase : Type 0
PortionsAreABase =
    (feed : FeedValue) (front behind : List EventValue) (block : Block) (place : EventValue) (portions : List Portion)
    → IsFeedOf feed (front ++ behind) → IsCut (source_of feed.plan) (reverse front) block → position_of (source_of feed.plan) place ≡ Some block.position
    → groups_to feed front ≤ length (sound_groups feed) → AllByRecursion (IsPortion feed.plan (reverse front)) portions
    → IsLeft (sound_groups feed) (groups_to feed front) (rows_of portions)
    → IsBaseFor feed front (reverse (in_force (source_of feed.plan) (reverse front))) (map event_of portions) place block.position (rows_of portions)

-- Bytes open as a feed under its plan, whose events are those of a front and others behind it; other messages in the place of
-- the front, and behind them messages with the others, open as the compacted feed.
abbrev pub BytesAreCompacted : Type 0
BytesAreCompacted =
    (feed : FeedValue) (bytes : List ℕ) (front behind : List EventValue) (base rest : List ℕ) → ReplacesFront feed front base → IsFeed feed → groups_under bytes feed.plan ≡ Ok feed.groups
    → HaveEvents bytes (front ++ behind) → HaveEvents rest behind → length (base ++ rest) < 2 ^ 31 → OpensCompacted bytes feed.plan (groups_to feed front - 1) (base ++ rest)

-- ---- other plans over the same tables

-- and so do they under each plan over the same tables under which the replaced groups are sound
abbrev pub BytesAreCompactedUnderAll : Type 0
BytesAreCompactedUnderAll =
    (feed : FeedValue) (decisions : List Decision) (bytes : List ℕ) (front behind : List EventValue) (base rest : List ℕ) → ReplacesFront feed front base → IsFeed feed → groups_under bytes feed.plan ≡ Ok feed.groups
    → HaveEvents bytes (front ++ behind) → HaveEvents rest behind → length (base ++ rest) < 2 ^ 31 → IsPlan (deciding feed.plan decisions)
    → groups_to feed front ≤ length (sound_groups (feed_deciding feed decisions)) → OpensCompacted bytes (deciding feed.plan decisions) (groups_to feed front - 1) (base ++ rest)

-- the rows that groups leave don't hang on what the filter answers, where there is an answer
abbrev pub LeftRowsAreOfAllDecisions : Type 0
LeftRowsAreOfAllDecisions =
    (feed : FeedValue) (decisions : List Decision) (n : ℕ) (rows : ImageRows) → n ≤ length (sound_groups feed) → n ≤ length (sound_groups (feed_deciding feed decisions))
    → IsLeft (sound_groups feed) n rows → IsLeft (sound_groups (feed_deciding feed decisions)) n rows

-- and so a base under one plan is one under each
abbrev pub BasesAreOfAllDecisions : Type 0
BasesAreOfAllDecisions =
    (feed : FeedValue) (decisions : List Decision) (front fields rows : List EventValue) (place : EventValue) (position : Position) (inserted : ImageRows)
    → IsBaseFor feed front fields rows place position inserted → groups_to feed front ≤ length (sound_groups (feed_deciding feed decisions))
    → IsBaseFor (feed_deciding feed decisions) front fields rows place position inserted
