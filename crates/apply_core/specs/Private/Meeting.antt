-- Keys at which both boards that are joined have a row, and the first two that clash.
use Rattle.std.specs.Prelude.{◌≡◌, ◌⊎◌, ℕ, ◌<◌, ◌≤◌, Bool, true, false, List, ◌∷◌, ◌++◌, Some, slice_get, if◌then◌else◌}
use Rattle.std.specs.List.{AllByRecursion}
use Rattle.std.specs.Ordering.{is_lt}
use Rattle.pk_copy.specs.KeyValue.{KeyValue}
use Rattle.target_tables.specs.declared.merge_side.MergeSide.{MergeSide}
use Rattle.target_tables.specs.declared.merge_side.MergeSide.TheVariants.{First, Second}
use Rattle.target_tables.specs.Merged.{comes_from}
use Rattle.board_laws.specs.Meaning.{State}
use Rattle.board_laws.specs.StateOrder.{state_cmp}

-- whether a stream's state in the second list is further on
abbrev pub IsFurther : List State → List State → ℕ → Bool → Type 0
IsFurther xs ys s further = (x y : State) → slice_get xs s ≡ Some x → slice_get ys s ≡ Some y → further ≡ is_lt (state_cmp x y)

-- the side from which a stream comes: the second where its state there is further on
abbrev pub side_by : Bool → MergeSide
side_by true = Second
side_by false = First

-- the sides of the first n streams
abbrev pub AreSidesUpTo : ℕ → List State → List State → List MergeSide → Type 0
AreSidesUpTo n xs ys sides = (s : ℕ) (x y : State) → s < n → slice_get xs s ≡ Some x → slice_get ys s ≡ Some y → slice_get sides s ≡ Some (side_by (is_lt (state_cmp x y)))

-- of each stream the side on which its state is further on; the first where both are one
abbrev pub AreFurtherSides : List State → List State → List MergeSide → Type 0
AreFurtherSides xs ys sides = (s : ℕ) (x y : State) → slice_get xs s ≡ Some x → slice_get ys s ≡ Some y → slice_get sides s ≡ Some (side_by (is_lt (state_cmp x y)))

-- a key at which both boards have a row, with the stream of the first board's and that of the second's
abbrev pub Met : Type 0
Met = KeyValue × (ℕ × ℕ)

-- both rows would stay: the one's stream comes from the first board, the other's from the second
abbrev pub clashes : List MergeSide → ℕ → ℕ → Bool
clashes sides here there = if comes_from sides First here then comes_from sides Second there else false

-- the later and the lower of two streams
abbrev pub AreOrdered : ℕ → ℕ → ℕ → ℕ → Type 0
AreOrdered here there later lower = ((later ≡ here) × (lower ≡ there) × (there ≤ here)) ⊎ ((later ≡ there) × (lower ≡ here) × (here ≤ there))

-- a clash is none of streams before this one, or none of them or with it
abbrev pub IsNoneBefore : List MergeSide → ℕ → Met → Type 0
IsNoneBefore sides later met = clashes sides met.1.0 met.1.1 ≡ true → (later ≤ met.1.0) ⊎ (later ≤ met.1.1)

abbrev pub IsNoneUpTo : List MergeSide → ℕ → Met → Type 0
IsNoneUpTo sides later met = clashes sides met.1.0 met.1.1 ≡ true → (later < met.1.0) ⊎ (later < met.1.1)

-- no rows clash
abbrev pub NoneClash : List MergeSide → List Met → Type 0
NoneClash sides = AllByRecursion (λ met. clashes sides met.1.0 met.1.1 ≡ false)

-- of the rows that clash the first ones: the least later stream, and its least key
pub record IsFirstMet (sides : List MergeSide) (all : List Met) (key : KeyValue) (later lower : ℕ) : Type 0 where
  pub front : List Met
  pub met : Met
  pub back : List Met
  pub parts : all ≡ front ++ met ∷ back
  pub is : key ≡ met.0
  pub clash : clashes sides met.1.0 met.1.1 ≡ true
  pub order : AreOrdered met.1.0 met.1.1 later lower
  pub before : AllByRecursion (IsNoneUpTo sides later) front
  pub behind : AllByRecursion (IsNoneBefore sides later) back
