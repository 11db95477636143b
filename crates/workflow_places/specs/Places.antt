-- Faults of a workflow file (this profile).
use Rattle.std.specs.Prelude.{Bool, true, false}
use Rattle.filter_rule.specs.declared.fault.PlanFault.{PlanFault}
use Rattle.filter_rule.specs.declared.fault.PlanFault.TheVariants.{Shape, Limit}

-- the file hasn't its shape, or is past a limit
abbrev pub is_of_shape : PlanFault → Bool
is_of_shape Shape = true
is_of_shape Limit = true
is_of_shape _ = false
