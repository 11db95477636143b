-- The least of a number and of the places of some items, and the first item that has none (this profile).
use Rattle.std.specs.Prelude.{◌≡◌, ◌⊎◌, ℕ, ◌<◌, ◌≤◌, List, ◌∷◌, ◌++◌}
use Rattle.std.specs.List.{AllByRecursion}

-- an item's place is 0, which is none, or not before this number
abbrev pub StandsBehind : {A : Type 0} → (A → ℕ → Type 0) → ℕ → A → Type 0
StandsBehind At number item = (place : ℕ) × At item place × ((place ≡ 0) ⊎ (number ≤ place))

-- the place of one of some items is this number, which isn't 0
pub record OneStandsAt {A : Type 0} (At : A → ℕ → Type 0) (items : List A) (number : ℕ) : Type 0 where
  pub some : 0 < number
  pub before : List A
  pub item : A
  pub behind : List A
  pub among : items ≡ before ++ item ∷ behind
  pub stands : At item number

-- the least of a number and of the places of some items, of which 0 doesn't count
pub record IsLeast {A : Type 0} (At : A → ℕ → Type 0) (most : ℕ) (items : List A) (number : ℕ) : Type 0 where
  pub up_to : number ≤ most
  pub behind : AllByRecursion (StandsBehind At number) items
  pub reached : (number ≡ most) ⊎ OneStandsAt At items number

-- one of some items has no place, by this fault, and those before it have one
pub record StopsAtFirst {A F : Type 0} (At : A → ℕ → Type 0) (IsRefused : A → F → Type 0) (items : List A) (fault : F) : Type 0 where
  pub before : List A
  pub item : A
  pub behind : List A
  pub among : items ≡ before ++ item ∷ behind
  pub stand : AllByRecursion (λ x. (place : ℕ) × At x place) before
  pub refused : IsRefused item fault
