-- What staging keeps and judges on its way; for the map's own code.
use Rattle.std.specs.Prelude.{◌≡◌, ℕ, ◌+◌, ◌<◌, Bool, false, List, [], ◌∷◌, length, drop, Option, Some, None, ◌==◌, if◌then◌else◌}
use Rattle.std.specs.declared.cmp.Ordering.{Ordering}
use Rattle.std.specs.declared.cmp.Ordering.TheVariants.{Less}
use Rattle.std.specs.List.{AllByRecursion, HoldsAt}
use Rattle.std.specs.Ordering.{is_eq}
use Rattle.target_tables.specs.declared.survey.ChangeVerdict.{ChangeVerdict}
use Rattle.target_tables.specs.declared.survey.ChangeVerdict.TheVariants.{NewKey, Foreign, Free}
use Rattle.std.specs.Option.{option_or}
use Rattle.target_tables.specs.Contents.{value_at}
use Rattle.target_tables.specs.Rising.{IsRising, AreAbove}
use Rattle.target_tables.specs.Touches.{owner_in_the_way}

-- the last of these has the key
abbrev pub ends_at : {K V : Type 0} → (K → K → Ordering) → K → List (K × V) → Bool
ends_at cmp k [] = false
ends_at cmp k (touch ∷ []) = is_eq (cmp touch.0 k)
ends_at cmp k (touch ∷ next ∷ later) = ends_at cmp k (next ∷ later)

-- a row that is put where a row stands
abbrev pub verdict_on : {R : Type 0} → ℕ → ℕ × R → ChangeVerdict
verdict_on stream there = if there.0 == stream then Free else Foreign there.0

-- what a change meets
abbrev pub verdict_of : {R : Type 0} → ℕ → Option R → Option (ℕ × R) → ChangeVerdict
verdict_of stream None there = Free
verdict_of stream (Some row) None = NewKey
verdict_of stream (Some row) (Some there) = verdict_on stream there

module _ {K R : Type 0} (cmp : K → K → Ordering) where
  -- no row of another stream is in the way of this change
  abbrev pub IsFree : List (K × (ℕ × R)) → ℕ → K × Option R → Type 0
  IsFree entries stream change = owner_in_the_way stream (Some change.1) (value_at cmp entries change.0) ≡ None

  -- a row of this stream is in the way of the change at this place, and none in the way of a later one
  pub record IsLastClash (entries : List (K × (ℕ × R))) (stream : ℕ) (changes : List (K × Option R)) (place owner : ℕ) : Type 0 where
    pub inside : place < length changes
    pub here : HoldsAt (λ change. owner_in_the_way stream (Some change.1) (value_at cmp entries change.0) ≡ Some owner) changes place
    pub later : AllByRecursion (IsFree entries stream) (drop (place + 1) changes)

-- the key of the first of these entries
abbrev pub IsFirstKey : {K V : Type 0} → K → List (K × V) → Type 0
IsFirstKey key [] = ⊥
IsFirstKey key (entry ∷ later) = key ≡ entry.0

-- the key and stream of the first of these entries
abbrev pub IsFront : {K R : Type 0} → K → ℕ → List (K × (ℕ × R)) → Type 0
IsFront key stream [] = ⊥
IsFront key stream (entry ∷ later) = (key ≡ entry.0) × (stream ≡ entry.1.0)

-- an entry that was fetched, and what lies behind it; where none was, nothing is left
abbrev pub fetched : {X : Type 0} → Option X → List X → List X
fetched None later = []
fetched (Some entry) later = entry ∷ later

module _ {K R : Type 0} (cmp : K → K → Ordering) where
  -- an entry is taken out of one of two lists, the lesser of the first ones, and what is left lies above it; of another one at its key in the second list nothing stays
  pub record IsLesser (one other : List (K × (ℕ × R))) (entry : K × (ℕ × R)) (left rest : List (K × (ℕ × R))) : Type 0 where
    pub above : AreAbove cmp entry.0 left
    pub beside : AreAbove cmp entry.0 rest
    pub behind : (d : K) → AreAbove cmp d one → AreAbove cmp d other → cmp d entry.0 ≡ Less
    pub fewer : length left + length rest < length one + length other
    pub values : (k : K) → option_or (value_at cmp one k) (value_at cmp other k) ≡ option_or (value_at cmp (entry ∷ []) k) (option_or (value_at cmp left k) (value_at cmp rest k))

  abbrev pub TakesLesser : List (K × (ℕ × R)) → List (K × (ℕ × R)) → Option (K × (ℕ × R)) → List (K × (ℕ × R)) → List (K × (ℕ × R)) → Type 0
  TakesLesser one other None left rest = (one ≡ []) × (other ≡ []) × (left ≡ []) × (rest ≡ [])
  TakesLesser one other (Some entry) left rest = IsLesser one other entry left rest

  -- each key has what the first list has there, or else the second
  pub record AreMixed (one other mixed : List (K × (ℕ × R))) : Type 0 where
    pub rising : IsRising cmp mixed
    pub values : (k : K) → value_at cmp mixed k ≡ option_or (value_at cmp one k) (value_at cmp other k)
