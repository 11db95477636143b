use Rattle.std.proofs.Common.{length}
use Rattle.vdiff.proofs.ReportLaws.{IsSameSoFar}
use Rattle.vdiff.proofs.report.first_difference.Given as goal

abbrev pub invariant-loop-ours : goal.invariant-loop-ours
invariant-loop-ours l = IsSameSoFar l.fn.source l.fn.target l.left l.right

abbrev pub decreases-loop-ours : goal.decreases-loop-ours
decreases-loop-ours l = length l.left
