-- Laws of steps, as statements: each is the contract of a function without a body.
use Rattle.std.specs.Prelude.{◌≡◌, ℕ, ◌+◌, ◌^◌, ◌<◌, ◌≤◌, List, [], length, map, take, nat_le, Some, None, slice_get, slice_set}
use Rattle.std.specs.List.{AllByRecursion}
use Rattle.filter_rule.specs.PlanValue.{PlanValue}
use Rattle.filter_rule.specs.WellFormed.{IsPlan}
use Rattle.pk_copy.specs.KeyOrder.{key_cmp}
use Rattle.pk_copy.specs.KeyValue.{KeyValue}
use Rattle.target_tables.specs.Rising.{IsRising}
use Rattle.target_tables.specs.Touches.{NoneInTheWay, IsLeastClash, IsTouched}
use Rattle.source_feed.specs.Prepared.{IsPrepared}
use Rattle.source_feed.specs.Touches.{PreparedValue}
use Rattle.source_feed.specs.History.{IsPassed}
use Rattle.source_feed.specs.Image.{ImageRows, chunk_of}
use Rattle.board_laws.specs.Meaning.{State, TargetRows, Meaning}
use Rattle.board_laws.specs.KeptRows.{passed_rows}
use Rattle.board_laws.specs.Lawful.{start_of, IsReadList, IsSoundState, IsLawful}
use Rattle.board_laws.specs.Event.{Event, OnOffer}
use Rattle.board_laws.specs.Chunk.{rows_left, takes_all}
use Rattle.board_laws.specs.StateAfter.{answer_to, state_after}
use Rattle.board_laws.specs.Touching.{touch_of}
use Rattle.board_laws.specs.Allowed.{IsAllowed}
use Rattle.board_laws.specs.Step.{IsMade, IsClash}

-- a board with another state of one stream, and other rows
abbrev pub with_state : Meaning → ℕ → State → TargetRows → Meaning
with_state board s state rows = record { streams = slice_set board.streams s state; rows = rows }

-- what stands where a step may be made on a lawful board
pub record MayStep (old : Meaning) (s : ℕ) (state : State) (event : Event) : Type 0 where
  pub lawful : IsLawful old
  pub stream : slice_get old.streams s ≡ Some state
  pub allowed : IsAllowed state event
  pub prepared : OnOffer IsPrepared event

-- ---- steps

-- a step whose touches are made, with no row of another stream in the way, is made: the board stays lawful
abbrev pub TouchesAreSteps : Type 0
TouchesAreSteps =
    (old : Meaning) (s : ℕ) (state : State) (event : Event) (rows : TargetRows) → MayStep old s state event
    → NoneInTheWay key_cmp old.rows s (touch_of state event) → IsTouched key_cmp old.rows s (touch_of state event) rows → IsRising key_cmp rows
    → IsMade old s event (answer_to state event) (with_state old s (state_after state event) rows)

-- a step that touches no row is made without them
abbrev pub StillSteps : Type 0
StillSteps =
    (old : Meaning) (s : ℕ) (state : State) (event : Event) → MayStep old s state event → ((key : KeyValue) → touch_of state event key ≡ None)
    → IsMade old s event (answer_to state event) (with_state old s (state_after state event) old.rows)

-- the least key at which a row is in the way of a step's touches is the least one of the new cut
abbrev pub ClashesAreOfTheCut : Type 0
ClashesAreOfTheCut =
    (old : Meaning) (s : ℕ) (state : State) (event : Event) (key : KeyValue) (owner : ℕ) → MayStep old s state event
    → IsLeastClash key_cmp old.rows s (touch_of state event) key owner → IsClash old.rows s state event key owner

-- the state behind a step is sound
abbrev pub StatesStaySound : Type 0
StatesStaySound = (state : State) (event : Event) → IsSoundState state → IsAllowed state event → OnOffer IsPrepared event → IsSoundState (state_after state event)

-- a read list has fewer than 2^31 groups
abbrev pub ReadListsAreShort : Type 0
ReadListsAreShort = (plan : PlanValue) (list : List PreparedValue) → IsReadList plan list → length list < 2 ^ 31

-- ---- rows that pass

-- the rows of a history that pass are one list
abbrev pub PassedRowsAreOneList : Type 0
PassedRowsAreOneList = (history : List PreparedValue) (n : ℕ) (rows : ImageRows) → IsPassed history n rows → rows ≡ passed_rows history n

-- of histories with the same first n groups the same rows pass
abbrev pub FirstGroupsKeep : Type 0
FirstGroupsKeep = (one other : List PreparedValue) (n : ℕ) (rows : ImageRows) → take n one ≡ take n other → IsPassed one n rows → IsPassed other n rows

-- ---- chunks

-- the first rows past the mark of the table that is copied are those that are left
abbrev pub ChunksAreLeft : Type 0
ChunksAreLeft =
    (state : State) (n : ℕ) → state.marks.done < state.marks.tables
    → chunk_of (passed_rows state.list state.applied) state.marks.done state.marks.upto n ≡ take n (rows_left state)

-- of one row more than c there are at most c exactly where a chunk of c takes all
abbrev pub OneMoreTells : Type 0
OneMoreTells = (state : State) (c : ℕ) → nat_le (length (take (c + 1) (rows_left state))) c ≡ takes_all state c

-- ---- a fresh board

-- streams of which nothing is read, under well-formed plans over the same tables, and no rows
abbrev pub FreshBoardsAreLawful : Type 0
FreshBoardsAreLawful =
    (plans : List PlanValue) → 1 ≤ length plans → length plans ≤ 64 → AllByRecursion IsPlan plans
    → ((s t : ℕ) (one other : PlanValue) → slice_get plans s ≡ Some one → slice_get plans t ≡ Some other → one.tables ≡ other.tables)
    → IsLawful (record { streams = map start_of plans; rows = [] })
