use Rattle.std.proofs.Common.{◌≡◌, map, drop}
use Rattle.log_groups.specs.Keeping.{mark_value, mark_from, mark_of}
use Rattle.log_groups.proofs.open.mark_of.Given as goal

abbrev pub invariant-loop-mark : goal.invariant-loop-mark
invariant-loop-mark l = mark_from l.name (map mark_value (drop l.mark-index l.marks)) l.found ≡ mark_of l.name (map mark_value l.marks)
