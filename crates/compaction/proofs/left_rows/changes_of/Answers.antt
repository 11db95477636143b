use Rattle.std.proofs.Common.{arith}
use Rattle.std.proofs.lemmas.Grind.{common_steps}
use Rattle.compaction.proofs.left_rows.changes_of.Goals as goal

pub loop-touch-preserved : goal.loop-touch-preserved
loop-touch-preserved c = grind (arith, common_steps)

pub returns : goal.returns
returns c = grind (arith, common_steps)
