use Rattle.std.proofs.Common.{◌+◌, length}
use Rattle.vdiff.proofs.ReportLaws.{IsWalked}
use Rattle.vdiff.proofs.report.compare_rows.Given as goal

abbrev pub invariant-loop-ours : goal.invariant-loop-ours
invariant-loop-ours l = IsWalked l.fn.source l.fn.target l.left l.right l.report.matching l.report.mismatched l.report.extra_source l.report.extra_target

abbrev pub decreases-loop-ours : goal.decreases-loop-ours
decreases-loop-ours l = length l.left + length l.right
