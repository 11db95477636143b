-- A checkpoint that was written before tables were added, over feeds which were opened under the plans with more
-- tables (this profile).
use Rattle.std.specs.Prelude.{◌≡◌, ℕ, ◌^◌, ◌<◌, ◌≤◌, List, [], ◌∷◌, length, Some, slice_get}
use Rattle.filter_rule.specs.PlanValue.{PlanValue}
use Rattle.source_feed.specs.Planned.{PlannedGroupValue, FeedValue}
use Rattle.source_feed.specs.Prepared.{IsSameOn}
use Rattle.source_feed.specs.SoundGroups.{sound_groups}
use Rattle.source_feed.specs.Touches.{PreparedValue}
use Rattle.board_laws.specs.Lawful.{IsLawful}
use Rattle.board_laws.specs.Meaning.{State, Meaning}
use Rattle.board_laws.specs.Extended.{marks_of_more, AreExtended, extended_board, MayExtend}
use Rattle.board_laws.specs.Compatible.{plans_of_board}
use Rattle.checkpoint_laws.specs.Laws.{AreWithin, AreFeeds}
use Rattle.checkpoint_laws.specs.Refused.{plans_of_feeds}
use Rattle.checkpoint_laws.specs.Resumed.{IsResumedBoard}
use Rattle.checkpoint_laws.specs.Said.{IsCheckpoint}
use Rattle.checkpoint_laws.specs.Saved.{SavedStream, saved_of}
use Rattle.checkpoint_laws.specs.Written.{checkpoint_of}

-- ---- what is said

-- what is kept of a stream, under a plan whose further tables wait
abbrev pub under_plan : PlanValue → SavedStream → SavedStream
under_plan plan saved = record { position = saved.position; marks = marks_of_more (length plan.tables) saved.marks; rows = saved.rows }

-- the same of streams, each under its plan
abbrev pub under_plans : List PlanValue → List SavedStream → List SavedStream
under_plans [] saved = []
under_plans (plan ∷ plans) [] = []
under_plans (plan ∷ plans) (one ∷ saved) = under_plan plan one ∷ under_plans plans saved

-- under plans with tables appended the checkpoint of a board within the limits says what is kept of the board, and that further tables
-- wait
abbrev pub SavedBoardsAreSaidOfMore : Type 0
SavedBoardsAreSaidOfMore =
    (board : Meaning) (plans : List PlanValue) → IsLawful board → AreWithin board → length (checkpoint_of board) < 2 ^ 64
    → AreExtended (plans_of_board board) plans → IsCheckpoint plans (checkpoint_of board) (under_plans plans (saved_of board))

-- ---- the board

-- feeds that may extend a board make with its checkpoint the board to which the tables are added, and no other
abbrev pub ExtendedBoardsAreResumed : Type 0
ExtendedBoardsAreResumed =
    (feeds : List FeedValue) (board : Meaning) → AreFeeds feeds → IsLawful board → MayExtend feeds board
    → IsResumedBoard feeds (under_plans (plans_of_feeds feeds) (saved_of board)) (extended_board feeds board)
    × ((other : Meaning) → IsResumedBoard feeds (under_plans (plans_of_feeds feeds) (saved_of board)) other → other ≡ extended_board feeds board)

-- ---- histories

-- A feed has the groups that a stream has applied, so far as they can be told apart: as many, at the same positions,
-- and those that come before the first unsound one with the same touches of the old tables.
pub record IsOfSameHistory (feed : FeedValue) (state : State) : Type 0 where
  pub enough : state.applied ≤ length feed.groups
  pub positions : (i : ℕ) (old : PreparedValue) (new : PlannedGroupValue) → i < state.applied → slice_get state.list i ≡ Some old → slice_get feed.groups i ≡ Some new
      → new.position ≡ old.position
  pub same : (i : ℕ) (old new : PreparedValue) → i < state.applied → slice_get state.list i ≡ Some old → slice_get (sound_groups feed) i ≡ Some new
      → IsSameOn (length state.plan.tables) old new

-- the same of each stream
pub record AreOfSameHistories (feeds : List FeedValue) (board : Meaning) : Type 0 where
  pub extended : AreExtended (plans_of_board board) (plans_of_feeds feeds)
  pub each_stream : (s : ℕ) (feed : FeedValue) (state : State) → slice_get feeds s ≡ Some feed → slice_get board.streams s ≡ Some state → IsOfSameHistory feed state
