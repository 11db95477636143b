use Rattle.std.proofs.Common.{ℕ, ◌≡◌, ◌<◌, Some, map, slice_get}
use Rattle.std.specs.Arc.{arc_value}
use Rattle.filter_rule.specs.Extending.{IsExtended}
use Rattle.filter_rule.specs.PlanValue.{PlanValue}
use Rattle.apply_core.specs.Private.Beside.{plans_in}
use Rattle.apply_core.proofs.adding.are_extended.Given as goal

-- the plans so far extend those of the first streams
abbrev pub invariant-loop-s : goal.invariant-loop-s
invariant-loop-s l =
    (i : ℕ) (one other : PlanValue) → i < l.s → slice_get (plans_in l.streams) i ≡ Some one → slice_get (map arc_value l.plans) i ≡ Some other → IsExtended one other
