-- Plans that share the rows of a table among them by key ranges under one vindex.
use Rattle.std.specs.Prelude.{◌≡◌, ◌≢◌, ℕ, List, Option, Some, Ok, true, false, map, slice_get}
use Rattle.vindex.specs.Bounds.{Bounds}
use Rattle.vindex.specs.KeyspaceId.{id_of}
use Rattle.vindex.specs.Tiling.{SplitsAllIds}
use Rattle.vindex.specs.declared.vindexes.Vindex.{Vindex}
use Rattle.filter_rule.specs.PlanValue.{PlanValue, decision_at, column_at, passes_of}
use Rattle.filter_rule.specs.declared.decision.Decision.TheVariants.{InRange}

-- the plans differ at a table in their key ranges alone
abbrev pub KeepRanges : List PlanValue → ℕ → ℕ → Vindex → List ℕ → List Bounds → Type 0
KeepRanges plans t column vindex kept ranges = map (λ plan. decision_at plan t) plans ≡ map (λ range. InRange column vindex range kept) ranges

-- one of the plans keeps the row, and no other
pub record PassesInOne (plans : List PlanValue) (t : ℕ) (row : List (Option (List ℕ))) : Type 0 where
  pub place : ℕ
  pub plan : PlanValue
  pub stands : slice_get plans place ≡ Some plan
  pub passes : passes_of plan t row ≡ Ok true
  pub alone : (other : ℕ) (another : PlanValue) → slice_get plans other ≡ Some another → other ≢ place → passes_of another t row ≡ Ok false

-- Where plans differ at a table in key ranges alone that split all ids, a row whose id is defined passes
-- in exactly one of them.
abbrev pub SplitRow : ℕ → List (Option (List ℕ)) → Type 0
SplitRow t row =
    (plans : List PlanValue) (column : ℕ) (vindex : Vindex) (kept : List ℕ) (ranges : List Bounds) (id : List ℕ)
    → SplitsAllIds ranges → KeepRanges plans t column vindex kept ranges → id_of vindex (column_at row column) ≡ Ok id
    → PassesInOne plans t row
