-- The base that a feed may begin with: a group that inserts rows and does nothing else, as `compact` writes one, and as the
-- rows are recorded that stand where a recording begins (this profile).
use Rattle.std.specs.Prelude.{◌≡◌, ◌↔◌, ℕ, ◌<◌, Bool, None, Ok, is_some, length, if◌then◌else◌}
use Rattle.std.specs.List.{AllByRecursion, count_by, list_all}
use Rattle.filter_rule.specs.PlanValue.{PlanValue}
use Rattle.source_feed.specs.Planned.{PlannedChangeValue, PlannedGroupValue}
use Rattle.source_feed.specs.Touches.{TouchValue, PreparedValue, prepared}

-- a touch puts a row; a row before a change is a touch that puts none
abbrev pub is_put : TouchValue → Bool
is_put touch = is_some touch.1

-- how many rows a group inserts, where it does nothing else: 0 where it takes a row away, or has none
abbrev pub base_rows : PreparedValue → ℕ
base_rows group = if list_all is_put group.touches then length group.touches else 0

-- ---- the same as a relation

-- no change of the group has a row before, and so many have a row after, at least one
pub record IsBase (group : PlannedGroupValue) (rows : ℕ) : Type 0 where
  pub added : AllByRecursion (λ (change : PlannedChangeValue). change.before ≡ None) group.changes
  pub count : count_by (λ (change : PlannedChangeValue). is_some change.after) group.changes ≡ rows
  pub some : 0 < rows

-- so many rows are told of a group exactly where it is a base of so many
abbrev pub BasesAreTold : Type 0
BasesAreTold =
    (plan : PlanValue) (planned : PlannedGroupValue) (group : PreparedValue) (rows : ℕ) → prepared plan planned ≡ Ok group → 0 < rows → (base_rows group ≡ rows) ↔ IsBase planned rows
