use Rattle.std.proofs.Common.{map, take}
use Rattle.std.specs.Arc.{arc_value}
use Rattle.std.specs.List.{AllByRecursion}
use Rattle.filter_rule.specs.WellFormed.{IsPlan}
use Rattle.apply_core.proofs.fresh.know_plans.Given as goal

-- the plans so far are well-formed
abbrev pub invariant-loop-plan : goal.invariant-loop-plan
invariant-loop-plan l = AllByRecursion IsPlan (take l.plan-index (map arc_value l.plans))
