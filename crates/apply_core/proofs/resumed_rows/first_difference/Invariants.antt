use Rattle.std.proofs.Common.{drop, map}
use Rattle.apply_core.specs.Private.Changes.{found_row}
use Rattle.vdiff.proofs.ReportLaws.{IsSameSoFar}
use Rattle.apply_core.proofs.resumed_rows.first_difference.Given as goal

-- the rows so far are the same
abbrev pub invariant-loop-i : goal.invariant-loop-i
invariant-loop-i l = IsSameSoFar l.saved (map (found_row l.plan) l.found) (drop l.i l.saved) (drop l.i (map (found_row l.plan) l.found))
