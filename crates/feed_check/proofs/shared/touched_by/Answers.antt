use Rattle.std.proofs.Common.{arith}
use Rattle.std.proofs.lemmas.Grind.{common_steps}
use Rattle.feed_check.proofs.shared.touched_by.Goals as goal

pub loop-touch-preserved : goal.loop-touch-preserved
loop-touch-preserved c = grind (arith, common_steps)

pub returns : goal.returns
returns c = grind (arith, common_steps)
