use Rattle.std.proofs.Common.{rules}
use Rattle.stream_core.specs.declared.step.Step.TheVariants.{Offer}
use Rattle.apply_core.proofs.ScheduleLaws.{run-taken}
use Rattle.apply_core.proofs.schedule.fed_replies.Goals as goal

pub loop-s-preserved : goal.loop-s-preserved
loop-s-preserved c = (
  run-taken c.args.feeds.now c.args.board.now c.loop-s.board c.take_fed.new.self c.args.steps.now c.loop-s.s-index (0, Offer 0) c.loop-s.replies.items c.push_reserved.new.self.items c.take_fed.result
      c.loop-s-test.true c.loop-s.invariant.0 c.take_fed.ensures.reply c.push_reserved.ensures.items,
  search rules,
  search rules,
  c.take_fed.ensures.fed,
)
