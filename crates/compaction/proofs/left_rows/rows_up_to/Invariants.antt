use Rattle.compaction.proofs.LeftLaws.{AreLeft}
use Rattle.compaction.proofs.left_rows.rows_up_to.Given as goal

-- the rows so far are those that the groups so far leave
abbrev pub invariant-loop-done : goal.invariant-loop-done
invariant-loop-done g l = AreLeft l.feed l.done l.rows
