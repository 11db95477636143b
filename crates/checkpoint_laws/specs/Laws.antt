-- Laws of checkpoints, as statements: each is the contract of a function without a body.
use Rattle.std.specs.Prelude.{◌≡◌, ℕ, ◌^◌, ◌<◌, ◌≤◌, List, length, map, take, Some, IfSome, slice_get}
use Rattle.std.specs.List.{AllByRecursion}
use Rattle.filter_rule.specs.PlanValue.{PlanValue}
use Rattle.filter_rule.specs.WellFormed.{IsPlan}
use Rattle.gtid_set.specs.Text.{text_limit}
use Rattle.pk_copy.specs.Lastpk.{lastpk_of}
use Rattle.row_view.specs.WrittenRow.{IsWithinLimits}
use Rattle.source_feed.specs.Planned.{FeedValue, IsFeed}
use Rattle.source_feed.specs.SoundGroups.{sound_groups}
use Rattle.vevent.specs.CheckpointPart.{StreamPartValue}
use Rattle.vevent.specs.WrittenPart.{IsSoundStream}
use Rattle.board_laws.specs.Meaning.{State, Meaning}
use Rattle.board_laws.specs.Lawful.{IsLawful}
use Rattle.board_laws.specs.Event.{restart}
use Rattle.board_laws.specs.StateAfter.{state_after}
use Rattle.board_laws.specs.Compatible.{plans_of_board}
use Rattle.checkpoint_laws.specs.declared.version.Version.{Version}
use Rattle.checkpoint_laws.specs.Saved.{SavedStream, saved_of}
use Rattle.checkpoint_laws.specs.Written.{position_text, written_checkpoint, checkpoint_in}
use Rattle.checkpoint_laws.specs.Said as said
use Rattle.checkpoint_laws.specs.Said.{IsCheckpoint}
use Rattle.checkpoint_laws.specs.Resumed.{IsResumedBoard, AtEachPlace}
use Rattle.checkpoint_laws.specs.Refused.{plans_of_feeds}

-- ---- parts

-- parts within the limits that are written, in either version, are read as these parts
abbrev pub CheckpointsAreReadAgain : Type 0
CheckpointsAreReadAgain =
    (version : Version) (parts : List StreamPartValue) → AllByRecursion IsSoundStream parts → length (written_checkpoint version parts) < 2 ^ 64
    → said.AreStreamParts version (written_checkpoint version parts) parts

-- ---- what is said

-- bytes say one thing at most
abbrev pub CheckpointsSayOneThing : Type 0
CheckpointsSayOneThing =
    (plans : List PlanValue) (bytes : List ℕ) (one other : List SavedStream) → AllByRecursion IsPlan plans → IsCheckpoint plans bytes one → IsCheckpoint plans bytes other → one ≡ other

-- what is kept of a stream is within the limits: the position's text, the rows and the key of a mark, as a row, aren't
-- too long
pub record IsStreamWithin (saved : SavedStream) : Type 0 where
  pub short : length (position_text saved.position) ≤ text_limit
  pub rows : AllByRecursion (λ row. IsWithinLimits row.1) saved.rows
  pub last : IfSome saved.marks.upto (λ key. IsWithinLimits (lastpk_of key))

-- the same of every stream of a board
abbrev pub AreWithin : Meaning → Type 0
AreWithin board = AllByRecursion IsStreamWithin (saved_of board)

-- what is kept of a board within the limits is what its checkpoint says in either version, whose bytes can be counted
abbrev pub SavedBoardsAreSaid : Type 0
SavedBoardsAreSaid =
    (version : Version) (board : Meaning) → IsLawful board → AreWithin board → length (checkpoint_in version board) < 2 ^ 64
    → IsCheckpoint (plans_of_board board) (checkpoint_in version board) (saved_of board)

-- ---- the resumed board

-- feeds as a board can have them: from 1 to 64, whole, under plans over the same tables
pub record AreFeeds (feeds : List FeedValue) : Type 0 where
  pub some : 1 ≤ length feeds
  pub few : length feeds ≤ 64
  pub whole : (s : ℕ) (feed : FeedValue) → slice_get feeds s ≡ Some feed → IsFeed feed
  pub tables : (s t : ℕ) (one other : FeedValue) → slice_get feeds s ≡ Some one → slice_get feeds t ≡ Some other → one.plan.tables ≡ other.plan.tables

-- whatever the bytes, a board that they and feeds make is lawful, and has the positions, marks and rows that they say
abbrev pub ResumedBoardsAreLawful : Type 0
ResumedBoardsAreLawful =
    (feeds : List FeedValue) (bytes : List ℕ) (saved : List SavedStream) (board : Meaning) → AreFeeds feeds
    → IsCheckpoint (plans_of_feeds feeds) bytes saved → IsResumedBoard feeds saved board → IsLawful board × (saved_of board ≡ saved)

-- ---- a board that is saved and resumed

-- a board after a restart of each stream
abbrev pub restarted : Meaning → Meaning
restarted board = record { streams = map (λ state. state_after state restart) board.streams; rows = board.rows }

-- a feed's groups begin with those that a stream has applied
pub record BeginsWithApplied (feed : FeedValue) (state : State) : Type 0 where
  pub plan : state.plan ≡ feed.plan
  pub applied : take state.applied state.list ≡ take state.applied (sound_groups feed)

-- the same of every stream
pub record BeginWithApplied (feeds : List FeedValue) (board : Meaning) : Type 0 where
  pub count : length feeds ≡ length board.streams
  pub each_stream : AtEachPlace BeginsWithApplied feeds board.streams

-- such feeds and the checkpoint make the board after a restart of each stream, and no other
abbrev pub RestartedBoardsAreResumed : Type 0
RestartedBoardsAreResumed =
    (feeds : List FeedValue) (board : Meaning) → AreFeeds feeds → IsLawful board → BeginWithApplied feeds board
    → IsResumedBoard feeds (saved_of board) (restarted board) × ((other : Meaning) → IsResumedBoard feeds (saved_of board) other → other ≡ restarted board)
