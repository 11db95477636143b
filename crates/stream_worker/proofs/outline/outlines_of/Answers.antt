use Rattle.std.proofs.Common.{arith}
use Rattle.stream_worker.proofs.OutlinesStayTrue.{outlines_more}
use Rattle.stream_worker.proofs.outline.outlines_of.Goals as goal

pub loop-s-preserved : goal.loop-s-preserved
loop-s-preserved c = (
  omega (arith, c.loop-s-test.true),
  outlines_more c.args.board.now.streams c.loop-s.s _ c.loop-s.outlines.items c.push.new.self.items c.in_ok-of.field-0 c.in_ok-push.ensures.items c.loop-s.invariant.1 c.in_ok-of.ensures (omega arith),
)
