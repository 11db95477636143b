-- Which boards can be joined (this profile).
use Rattle.std.specs.Prelude.{◌≡◌, ◌≢◌, ◌⊎◌, ℕ, List, length, map, take, Some, None, slice_get}
use Rattle.filter_rule.specs.PlanValue.{PlanValue}
use Rattle.pk_copy.specs.KeyValue.{KeyValue}
use Rattle.source_feed.specs.Touches.{PreparedValue}
use Rattle.board_laws.specs.Meaning.{State, Meaning}
use Rattle.board_laws.specs.Cut.{cut_of}
use Rattle.board_laws.specs.StateOrder.{IsRunning}
use Rattle.board_laws.specs.Chosen.{all_chosen}

-- the plans of a board's streams
abbrev pub plans_of_board : Meaning → List PlanValue
plans_of_board board = map (λ state. state.plan) board.streams

-- a fact of the two states of every stream
abbrev pub OfEachStream : (State → State → Type 0) → List State → List State → Type 0
OfEachStream P xs ys = (s : ℕ) (x y : State) → slice_get xs s ≡ Some x → slice_get ys s ≡ Some y → P x y

-- all tables are copied in both
abbrev pub AreRunning : State → State → Type 0
AreRunning x y = IsRunning x × IsRunning y

-- one list is a beginning of the other
abbrev pub IsBeginning : List PreparedValue → List PreparedValue → Type 0
IsBeginning front whole = take (length front) whole ≡ front

-- one of the two read lists is a beginning of the other
abbrev pub AreOfOneHistory : State → State → Type 0
AreOfOneHistory x y = IsBeginning x.list y.list ⊎ IsBeginning y.list x.list

-- what can be asked of two boards' streams, rows aside
pub record AreAlike (a b : Meaning) : Type 0 where
  pub plans : plans_of_board a ≡ plans_of_board b
  pub histories : OfEachStream AreOfOneHistory a.streams b.streams

-- no key has a row in the cuts of two streams
abbrev pub AreApart : List State → Type 0
AreApart states =
    (s t : ℕ) (x y : State) (key : KeyValue) → slice_get states s ≡ Some x → slice_get states t ≡ Some y → cut_of x key ≢ None → cut_of y key ≢ None → s ≡ t

-- two boards can be joined: streams may still copy
pub record AreCompatible (a b : Meaning) : Type 0 where
  pub plans : plans_of_board a ≡ plans_of_board b
  pub histories : OfEachStream AreOfOneHistory a.streams b.streams
  pub apart : AreApart (all_chosen a.streams b.streams)
