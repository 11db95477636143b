use Rattle.apply_core.proofs.ResumeLaws.{AgreeUpTo}
use Rattle.apply_core.proofs.resumed_rows.compare_rows.Given as goal

-- the first streams agree
abbrev pub invariant-loop-s : goal.invariant-loop-s
invariant-loop-s l = AgreeUpTo l.saved l.streams l.s
