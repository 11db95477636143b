-- A board to which tables are added (this profile, after Vitess's move of further tables into a running workflow).
use Rattle.std.specs.Prelude.{◌≡◌, ℕ, List, [], ◌∷◌, length, take, Some, None, slice_get}
use Rattle.filter_rule.specs.Extending.{IsExtended}
use Rattle.filter_rule.specs.PlanValue.{PlanValue}
use Rattle.pk_copy.specs.Marks.{Marks}
use Rattle.source_feed.specs.Planned.{FeedValue, IsFeed}
use Rattle.source_feed.specs.SoundGroups.{sound_groups}
use Rattle.board_laws.specs.Meaning.{State, Meaning}
use Rattle.board_laws.specs.GoingOn.{GoesOn}

-- ---- the board

-- the marks of before, behind which further tables wait
abbrev pub marks_of_more : ℕ → Marks → Marks
marks_of_more tables marks = record { tables = tables; done = marks.done; upto = marks.upto }

-- a stream with the plan of its feed, under which the feed's first groups are read and applied, as many as before;
-- further tables wait, and no snapshot is open
abbrev pub extended_state : FeedValue → State → State
extended_state feed state = record {
  plan = feed.plan;
  list = take state.applied (sound_groups feed);
  applied = state.applied;
  marks = marks_of_more (length feed.plan.tables) state.marks;
  snapshot = None;
}

-- the same of each stream, by its feed
abbrev pub extended_states : List FeedValue → List State → List State
extended_states [] states = []
extended_states (feed ∷ feeds) [] = []
extended_states (feed ∷ feeds) (state ∷ later) = extended_state feed state ∷ extended_states feeds later

-- the streams with more tables, and the old rows
abbrev pub extended_board : List FeedValue → Meaning → Meaning
extended_board feeds board = record { streams = extended_states feeds board.streams; rows = board.rows }

-- ---- what is asked of plans and feeds

-- each plan is that of its place with tables appended
pub record AreExtended (old new : List PlanValue) : Type 0 where
  pub count : length new ≡ length old
  pub each_plan : (s : ℕ) (one other : PlanValue) → slice_get old s ≡ Some one → slice_get new s ≡ Some other → IsExtended one other

-- there is a whole feed for each stream, all under plans of the same tables; each plan is its stream's with tables
-- appended, and each feed goes on from its stream
pub record MayExtend (feeds : List FeedValue) (board : Meaning) : Type 0 where
  pub count : length feeds ≡ length board.streams
  pub whole : (s : ℕ) (feed : FeedValue) → slice_get feeds s ≡ Some feed → IsFeed feed
  pub tables : (s t : ℕ) (one other : FeedValue) → slice_get feeds s ≡ Some one → slice_get feeds t ≡ Some other → one.plan.tables ≡ other.plan.tables
  pub extends : (s : ℕ) (feed : FeedValue) (state : State) → slice_get feeds s ≡ Some feed → slice_get board.streams s ≡ Some state → IsExtended state.plan feed.plan
  pub goes_on : (s : ℕ) (feed : FeedValue) (state : State) → slice_get feeds s ≡ Some feed → slice_get board.streams s ≡ Some state → GoesOn feed state
