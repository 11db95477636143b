-- The board that a checkpoint and its streams' feeds make (this profile).
use Rattle.std.specs.Prelude.{◌≡◌, ℕ, ◌≤◌, List, length, take, Some, None, slice_get}
use Rattle.pk_copy.specs.Marks.{Marks}
use Rattle.source_feed.specs.Planned.{FeedValue}
use Rattle.source_feed.specs.Positions.{IsNumberAt}
use Rattle.source_feed.specs.SoundGroups.{sound_groups}
use Rattle.board_laws.specs.Meaning.{State, Meaning}
use Rattle.board_laws.specs.Compatible.{AreApart}
use Rattle.board_laws.specs.Joined.{cut_rows, board_of}
use Rattle.checkpoint_laws.specs.Saved.{SavedStream}

-- the position is the empty set or that of a group of the feed
abbrev pub IsKnown : FeedValue → SavedStream → Type 0
IsKnown feed saved = (number : ℕ) × IsNumberAt feed saved.position number

-- so many groups of a feed are read and applied, no snapshot is open
abbrev pub resumed_state : FeedValue → Marks → ℕ → State
resumed_state feed marks number = record { plan = feed.plan; list = take number (sound_groups feed); applied = number; marks = marks; snapshot = None }

-- the stream stands where the checkpoint says: the groups up to its position are sound, and they are applied
pub record IsResumedAt (feed : FeedValue) (saved : SavedStream) (state : State) : Type 0 where
  pub number : ℕ
  pub known : IsNumberAt feed saved.position number
  pub sound : number ≤ length (sound_groups feed)
  pub state_is : state ≡ resumed_state feed saved.marks number

-- the same of every stream
pub record AreResumed (feeds : List FeedValue) (saved : List SavedStream) (states : List State) : Type 0 where
  pub count : length states ≡ length feeds
  pub same_count : length saved ≡ length feeds
  pub each_stream : (s : ℕ) (feed : FeedValue) (one : SavedStream) (state : State)
      → slice_get feeds s ≡ Some feed → slice_get saved s ≡ Some one → slice_get states s ≡ Some state → IsResumedAt feed one state

-- the rows that a checkpoint says are those that replaying the applied groups leaves within the marks
abbrev pub AgreesWith : SavedStream → State → Type 0
AgreesWith saved state = saved.rows ≡ cut_rows state

-- a fact of two values at each place of two lists
abbrev pub AtEachPlace : {A B : Type 0} → (A → B → Type 0) → List A → List B → Type 0
AtEachPlace {A} {B} P xs ys = (s : ℕ) (x : A) (y : B) → slice_get xs s ≡ Some x → slice_get ys s ≡ Some y → P x y

-- What a checkpoint and feeds make: the streams stand where the checkpoint says, its rows are those of the feeds, no key
-- has rows of two streams, and the board has these rows.
pub record IsResumedBoard (feeds : List FeedValue) (saved : List SavedStream) (board : Meaning) : Type 0 where
  pub states : AreResumed feeds saved board.streams
  pub agree : AtEachPlace AgreesWith saved board.streams
  pub apart : AreApart board.streams
  pub is : board ≡ board_of board.streams
