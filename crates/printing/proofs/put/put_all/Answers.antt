use Rattle.printing.proofs.PrintLaws.{moves, taken}
use Rattle.printing.proofs.put.put_all.Goals as goal

pub loop-rest-preserved : goal.loop-rest-preserved
loop-rest-preserved g c = moves _ _ _ _ _ _ _ (taken c.loop-rest.rest.now c.in_ok-count.count) c.loop-rest.invariant c.in_ok-count.ensures.written
