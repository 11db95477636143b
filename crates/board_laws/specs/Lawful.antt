-- What is true of every board: the headline of a target (this profile).
use Rattle.std.specs.Prelude.{◌≡◌, ℕ, ◌≤◌, List, [], length, Some, None, IfSome, slice_get}
use Rattle.filter_rule.specs.PlanValue.{PlanValue}
use Rattle.filter_rule.specs.WellFormed.{IsPlan}
use Rattle.pk_copy.specs.KeyOrder.{key_cmp}
use Rattle.pk_copy.specs.KeyValue.{KeyValue}
use Rattle.pk_copy.specs.Lastpk.{IsTableKey}
use Rattle.pk_copy.specs.Marks.{AreMarks}
use Rattle.stream_core.specs.Standing.{Standing, IsSound}
use Rattle.target_tables.specs.Contents.{value_at}
use Rattle.target_tables.specs.Rising.{IsRising}
use Rattle.source_feed.specs.GroupOrder.{AreInOrder}
use Rattle.source_feed.specs.Prepared.{IsPrepared}
use Rattle.source_feed.specs.Touches.{PreparedValue}
use Rattle.board_laws.specs.Meaning.{State, Meaning}
use Rattle.board_laws.specs.Cut.{cut_in, own_row}

-- ---- one stream

-- a stream of which nothing is read and nothing copied
abbrev pub start_of : PlanValue → State
start_of plan = record {
  plan = plan;
  list = [];
  applied = 0;
  marks = record { tables = length plan.tables; done = 0; upto = None };
  snapshot = None;
}

-- where a stream stands, by its numbers
abbrev pub standing_of : State → Standing
standing_of state = record {
  read = length state.list;
  applied = state.applied;
  tables = state.marks.tables;
  done = state.marks.done;
  snapshot = state.snapshot;
}

-- groups that are read one after another from the first: each is one that a feed prepares, of this plan, and
-- they are numbered 1, 2, .., and their positions grow from the empty set
pub record IsReadList (plan : PlanValue) (list : List PreparedValue) : Type 0 where
  pub prepared : (i : ℕ) (group : PreparedValue) → slice_get list i ≡ Some group → IsPrepared group
  pub planned : (i : ℕ) (group : PreparedValue) → slice_get list i ≡ Some group → group.plan ≡ plan
  pub order : AreInOrder (λ (group : PreparedValue). group.number) (λ (group : PreparedValue). group.position) list

-- what is true of every stream's state: its plan is well-formed, and the key up to which a table is copied is one of its
-- table
pub record IsSoundState (state : State) : Type 0 where
  pub plan : IsPlan state.plan
  pub list : IsReadList state.plan state.list
  pub standing : IsSound (standing_of state)
  pub marks : AreMarks state.marks
  pub tables : state.marks.tables ≡ length state.plan.tables
  pub upto : IfSome state.marks.upto (IsTableKey state.plan)

-- ---- a board

-- From 1 to 64 streams over the same tables, each in a sound state, and rows by rising key; and for every
-- stream and key the stream's own row at the key is the one of its cut, so the target has no other rows.
pub record IsLawful (board : Meaning) : Type 0 where
  pub some : 1 ≤ length board.streams
  pub few : length board.streams ≤ 64
  pub sound : (s : ℕ) (state : State) → slice_get board.streams s ≡ Some state → IsSoundState state
  pub tables : (s t : ℕ) (one other : State) → slice_get board.streams s ≡ Some one → slice_get board.streams t ≡ Some other → one.plan.tables ≡ other.plan.tables
  pub rising : IsRising key_cmp board.rows
  pub cuts : (s : ℕ) (key : KeyValue) → own_row s (value_at key_cmp board.rows key) ≡ cut_in board s key
