use Rattle.std.proofs.Common.{take}
use Rattle.std.specs.List.{AllByRecursion}
use Rattle.compaction.specs.Private.Written.{IsOfPlan}
use Rattle.compaction.proofs.cut.are_known.Given as goal

-- the FIELDs so far are of tables of the plan
abbrev pub invariant-loop-field : goal.invariant-loop-field
invariant-loop-field l = AllByRecursion (IsOfPlan l.plan) (take l.field-index l.fields)
