use Rattle.std.proofs.Common.{◌≡◌, ℕ, ◌<◌, Some, map, slice_get}
use Rattle.std.specs.Arc.{arc_value}
use Rattle.filter_rule.specs.PlanValue.{PlanValue}
use Rattle.apply_core.proofs.fresh.have_same_tables.Given as goal

-- the plans so far have the first one's tables
abbrev pub invariant-loop-plan : goal.invariant-loop-plan
invariant-loop-plan l = (i : ℕ) (plan : PlanValue) → i < l.plan-index → slice_get (map arc_value l.plans) i ≡ Some plan → plan.tables ≡ l.first.value.tables
