-- Laws of schedules, as statements: each is the contract of a function without a body.
use Rattle.std.specs.Prelude.{◌≡◌, ◌≢◌, ◌↔◌, ℕ, List, Some, Err, slice_get, slice_set}
use Rattle.std.specs.List.{AllByRecursion}
use Rattle.stream_core.specs.declared.step.Step.{Step}
use Rattle.pk_copy.specs.KeyOrder.{key_cmp}
use Rattle.pk_copy.specs.KeyValue.{KeyValue}
use Rattle.target_tables.specs.Contents.{value_at}
use Rattle.source_feed.specs.History.{RowValue}
use Rattle.source_feed.specs.Planned.{FeedValue}
use Rattle.board_laws.specs.declared.refusal.Refusal.TheVariants.{OwnedByOther, Memory}
use Rattle.board_laws.specs.declared.step_refusal.StepRefusal.TheVariants.{Refused}
use Rattle.board_laws.specs.Meaning.{State, Meaning}
use Rattle.board_laws.specs.Lawful.{IsLawful}
use Rattle.board_laws.specs.Cut.{own_row}
use Rattle.board_laws.specs.Lone.{lone_steps, lone_replies, IsAloneAs}
use Rattle.board_laws.specs.Runs.{own, taken, AreDisjoint}
use Rattle.board_laws.specs.Reading.{AllReadTheirFeeds, IsReplayed}
use Rattle.board_laws.specs.FedBoards.{IsFedBoard, HasGrown}
use Rattle.board_laws.specs.Sources.{AllShowTheirSources, ShowAll}
use Rattle.board_laws.specs.Schedule.{Reply, IsReply, IsRun}

-- each stream's state is the one behind its own steps that weren't refused, by its feed alone
abbrev pub StreamsFollowTheirOwnSteps : Type 0
StreamsFollowTheirOwnSteps =
    (feeds : List FeedValue) (old new : Meaning) (steps : List (ℕ × Step)) (replies : List Reply) → IsRun feeds old steps replies new
    → (s : ℕ) (feed : FeedValue) (state : State) → slice_get feeds s ≡ Some feed → slice_get old.streams s ≡ Some state
    → slice_get new.streams s ≡ Some (taken feed (own s steps replies) state)

-- a board stays lawful
abbrev pub RunsStayLawful : Type 0
RunsStayLawful =
    (feeds : List FeedValue) (old new : Meaning) (steps : List (ℕ × Step)) (replies : List Reply) → IsRun feeds old steps replies new → IsLawful old → IsLawful new

-- lawful boards of the same states are the same
abbrev pub StatesSayTheRows : Type 0
StatesSayTheRows = (one other : Meaning) → IsLawful one → IsLawful other → one.streams ≡ other.streams → one ≡ other

-- no reply is want of memory
abbrev pub NoneWantsMemory : List Reply → Type 0
NoneWantsMemory replies = AllByRecursion (λ (reply : Reply). reply ≢ Err (Refused Memory)) replies

-- on a lawful board the same steps have the same replies and leave the same board, want of memory aside
abbrev pub RunsAreDetermined : Type 0
RunsAreDetermined =
    (feeds : List FeedValue) (old one other : Meaning) (steps : List (ℕ × Step)) (replies others : List Reply) → IsLawful old
    → IsRun feeds old steps replies one → IsRun feeds old steps others other → NoneWantsMemory replies → NoneWantsMemory others
    → (replies ≡ others) × (one ≡ other)

-- ---- isolation

-- a stream's own steps, those aside that another stream's row or want of memory hindered, have the same replies
-- on a board where no other stream has a row, and leave the stream the same state there
abbrev pub StreamsAreIsolated : Type 0
StreamsAreIsolated =
    (feeds : List FeedValue) (old new : Meaning) (steps : List (ℕ × Step)) (replies : List Reply) → IsRun feeds old steps replies new
    → (s : ℕ) (alone : Meaning) → IsAloneAs s old alone
    → (left : Meaning) × IsRun feeds alone (lone_steps s steps replies) (lone_replies s steps replies) left × IsAloneAs s new left

-- and the same rows
abbrev pub AloneWithTheSameRows : Type 0
AloneWithTheSameRows =
    (s : ℕ) (board alone : Meaning) → IsLawful board → IsAloneAs s board alone
    → (key : KeyValue) → own_row s (value_at key_cmp alone.rows key) ≡ own_row s (value_at key_cmp board.rows key)

-- and there is such a board for each stream of a lawful one
abbrev pub AloneBoardsExist : Type 0
AloneBoardsExist = (board : Meaning) → IsLawful board → (s : ℕ) (state : State) → slice_get board.streams s ≡ Some state → (alone : Meaning) × IsAloneAs s board alone

-- ---- feeds

-- streams that read their feeds in order still do behind any steps
abbrev pub StreamsReadTheirFeeds : Type 0
StreamsReadTheirFeeds =
    (feeds : List FeedValue) (old new : Meaning) (steps : List (ℕ × Step)) (replies : List Reply) → IsRun feeds old steps replies new → AllReadTheirFeeds feeds old → AllReadTheirFeeds feeds new

-- the step was refused since another stream's row stood at a key
abbrev pub IsClashReply : Reply → Type 0
IsClashReply (Err (Refused (OwnedByOther key owner))) = Unit {0}
IsClashReply reply = ⊥

abbrev pub NoneClashes : List Reply → Type 0
NoneClashes replies = AllByRecursion (λ (reply : Reply). ¬ IsClashReply reply) replies

-- where no key is touched in two feeds no step is refused 71
abbrev pub DisjointFeedsNeverClash : Type 0
DisjointFeedsNeverClash =
    (feeds : List FeedValue) (old new : Meaning) (steps : List (ℕ × Step)) (replies : List Reply) → IsRun feeds old steps replies new → IsLawful old → AllReadTheirFeeds feeds old → AreDisjoint feeds
    → NoneClashes replies

-- ---- rows

-- a row of the target is a stream's exactly where replaying the stream's applied groups from empty tables leaves it
-- there, it passes the stream's filter and its key is copied
abbrev pub RowsAreReplayed : Type 0
RowsAreReplayed =
    (board : Meaning) → IsLawful board → (s : ℕ) (key : KeyValue) (row : RowValue) → (value_at key_cmp board.rows key ≡ Some (s, row)) ↔ IsReplayed board s key row

-- the streams of a lawful board that read their feeds show their sources
abbrev pub BoardsShowTheirSources : Type 0
BoardsShowTheirSources = (feeds : List FeedValue) (board : Meaning) → IsLawful board → AllReadTheirFeeds feeds board → AllShowTheirSources feeds board

-- ---- a board with its feeds

-- a board with its feeds shows all their sources
abbrev pub FedBoardsShowAll : Type 0
FedBoardsShowAll = (feeds : List FeedValue) (board : Meaning) → IsFedBoard feeds board → ShowAll feeds board

-- behind a step it still is one
abbrev pub FedBoardsStayFed : Type 0
FedBoardsStayFed =
    (feeds : List FeedValue) (old new : Meaning) (step : ℕ × Step) (reply : Reply) → IsReply feeds old step reply new → IsFedBoard feeds old → IsFedBoard feeds new

-- and behind any steps
abbrev pub FedBoardsRunFed : Type 0
FedBoardsRunFed =
    (feeds : List FeedValue) (old new : Meaning) (steps : List (ℕ × Step)) (replies : List Reply) → IsRun feeds old steps replies new → IsFedBoard feeds old → IsFedBoard feeds new

-- and where the feed of a stream grows
abbrev pub FedBoardsMayGrow : Type 0
FedBoardsMayGrow =
    (feeds : List FeedValue) (board : Meaning) (s : ℕ) (old new : FeedValue) → IsFedBoard feeds board → slice_get feeds s ≡ Some old → HasGrown old new
    → IsFedBoard (slice_set feeds s new) board
