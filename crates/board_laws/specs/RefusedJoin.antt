-- Why two boards aren't joined: the first of three tests that fails (this profile).
use Rattle.std.specs.Prelude.{◌≡◌, ◌≢◌, ℕ, ◌<◌, List, take, Some, slice_get}
use Rattle.pk_copy.specs.KeyOrder.{key_cmp}
use Rattle.pk_copy.specs.KeyValue.{KeyValue}
use Rattle.target_tables.specs.Touches.{IsLeastClash}
use Rattle.board_laws.specs.Meaning.{State, Meaning}
use Rattle.board_laws.specs.Step.{due_at}
use Rattle.board_laws.specs.declared.join_fault.JoinFault.{JoinFault}
use Rattle.board_laws.specs.declared.join_fault.JoinFault.TheVariants.{WrongPlan, HistoriesDiffer, OwnedByOther, Memory}
use Rattle.board_laws.specs.Chosen.{all_chosen}
use Rattle.board_laws.specs.Compatible.{plans_of_board, OfEachStream, AreOfOneHistory, AreAlike, AreApart}
use Rattle.board_laws.specs.Joined.{rows_from}

-- stream s is the first whose two states don't have the fact
pub record IsFirstNot (P : State → State → Type 0) (xs ys : List State) (s : ℕ) : Type 0 where
  pub one : State
  pub other : State
  pub here : slice_get xs s ≡ Some one
  pub there : slice_get ys s ≡ Some other
  pub fails : ¬ P one other
  pub before : (t : ℕ) (x y : State) → t < s → slice_get xs t ≡ Some x → slice_get ys t ≡ Some y → P x y

-- Streams are put together in order. One of them is the first that meets a row of a lower stream at a key of its
-- cut: this is the least such key, and the lower stream that has the row.
pub record IsFirstClash (states : List State) (key : KeyValue) (owner : ℕ) : Type 0 where
  pub stream : ℕ
  pub state : State
  pub here : slice_get states stream ≡ Some state
  pub lower : AreApart (take stream states)
  pub least : IsLeastClash key_cmp (rows_from 0 (take stream states)) stream (due_at state) key owner

-- the plans are the same, and of a stream neither read list is a beginning of the other
pub record AreOfOtherHistories (a b : Meaning) (s : ℕ) : Type 0 where
  pub plans : plans_of_board a ≡ plans_of_board b
  pub first : IsFirstNot AreOfOneHistory a.streams b.streams s

-- every stream's lists are of one history, and the chosen states of two streams have rows at one key
pub record HaveClash (a b : Meaning) (key : KeyValue) (owner : ℕ) : Type 0 where
  pub plans : plans_of_board a ≡ plans_of_board b
  pub histories : OfEachStream AreOfOneHistory a.streams b.streams
  pub first : IsFirstClash (all_chosen a.streams b.streams) key owner

-- what stands where a join is refused; memory is asked for only where the plans and the histories are right
abbrev pub IsRefusedJoin : Meaning → Meaning → JoinFault → Type 0
IsRefusedJoin a b WrongPlan = plans_of_board a ≢ plans_of_board b
IsRefusedJoin a b (HistoriesDiffer s) = AreOfOtherHistories a b s
IsRefusedJoin a b (OwnedByOther key owner) = HaveClash a b key owner
IsRefusedJoin a b Memory = AreAlike a b
