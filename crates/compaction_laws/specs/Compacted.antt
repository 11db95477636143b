-- A history without its past: a base in the place of its first groups (this profile).
use Rattle.std.specs.Prelude.{◌≡◌, ◌↔◌, ℕ, ◌+◌, ◌-◌, ◌<◌, List, [], ◌∷◌, map, drop, Some, slice_get}
use Rattle.filter_rule.specs.PlanValue.{PlanValue}
use Rattle.pk_copy.specs.KeyValue.{KeyValue}
use Rattle.source_feed.specs.History.{row_at, passed_at, kept_at, IsPassed}
use Rattle.source_feed.specs.Image.{ImageRows}
use Rattle.source_feed.specs.Touches.{PreparedValue}

-- a group, numbered behind so many groups fewer
abbrev pub lowered : ℕ → PreparedValue → PreparedValue
lowered fewer group = record group { number = group.number - fewer }

-- a base in the place of the first groups, and behind it the others, numbered on: so many groups fewer
abbrev pub compacted : List PreparedValue → ℕ → PreparedValue → List PreparedValue
compacted history fewer base = base ∷ map (lowered fewer) (drop (fewer + 1) history)

-- A base for the first groups of a history, of which it makes so many fewer: a first group at the position of the last of
-- them, which leaves at each key what they leave there.
pub record IsBaseOf (history : List PreparedValue) (fewer : ℕ) (base : PreparedValue) : Type 0 where
  pub number : base.number ≡ 1
  pub last : PreparedValue
  pub there : slice_get history fewer ≡ Some last
  pub position : base.position ≡ last.position
  pub leaves : (key : KeyValue) → row_at (base ∷ []) 1 key ≡ row_at history (fewer + 1) key

-- From the base on all stays: what stands at each key, what of it passes and is kept under any plan, the rows that pass as
-- a list, and the positions.
pub record StaysFrom (history : List PreparedValue) (fewer : ℕ) (base : PreparedValue) : Type 0 where
  pub rows : (n : ℕ) (key : KeyValue) → fewer < n → row_at (compacted history fewer base) (n - fewer) key ≡ row_at history n key
  pub passed : (n : ℕ) (key : KeyValue) → fewer < n → passed_at (compacted history fewer base) (n - fewer) key ≡ passed_at history n key
  pub kept : (plan : PlanValue) (n : ℕ) (key : KeyValue) → fewer < n → kept_at plan (compacted history fewer base) (n - fewer) key ≡ kept_at plan history n key
  pub are_passed : (n : ℕ) (rows : ImageRows) → fewer < n → IsPassed (compacted history fewer base) (n - fewer) rows ↔ IsPassed history n rows
  pub positions : map (λ group. group.position) (compacted history fewer base) ≡ map (λ group. group.position) (drop fewer history)
