use Rattle.std.proofs.Common.{vec_len}
use Rattle.target_tables.proofs.Keeping.{Keeps}
use Rattle.target_tables.proofs.touched.last_of_each.Given as goal

abbrev pub invariant-loop-touch : goal.invariant-loop-touch
invariant-loop-touch g l = Keeps g.K.Ord.cmp l.fn.touches.items l.touches.items l.kept.items

abbrev pub decreases-loop-touch : goal.decreases-loop-touch
decreases-loop-touch g l = vec_len l.touches
