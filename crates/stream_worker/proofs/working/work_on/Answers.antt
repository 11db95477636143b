use Rattle.std.proofs.Common.{◌∙◌}
use Rattle.stream_worker.proofs.StepsAreMade.{stepped-trans}
use Rattle.stream_worker.proofs.working.work_on.Goals as goal

pub loop-preserved : goal.loop-preserved
loop-preserved g c = (
  c.in-Ok-true.ensures.is_at.0,
  c.in-Ok-true.ensures.goes_on.plan c.loop.invariant.1,
  c.in-Ok-true.ensures.is_at.1 ∙ c.loop.invariant.2,
  λ n saw. c.in-Ok-true.ensures.goes_on.many n (c.loop.invariant.3 n saw),
  c.in-Ok-true.ensures.goes_on.receipts c.args.seat.now.cursor.applied c.loop.invariant.4,
  λ follows. c.in-Ok-true.ensures.goes_on.follows (c.loop.invariant.5 follows),
  c.in-Ok-true.ensures.feed,
  stepped-trans c.args.feed.now c.args.seat.now c.loop.seat c.go_on.new.seat c.loop.invariant.2 c.loop.invariant.7 c.in-Ok-true.ensures.goes_on.stepped,
)

pub returns-in-Ok-false-clause-many : goal.returns-in-Ok-false-clause-many
returns-in-Ok-false-clause-many g c = λ n saw. c.in-Ok-false.ensures.goes_on.many n (c.loop.invariant.3 n saw)

pub returns-in-Ok-false-clause-receipts : goal.returns-in-Ok-false-clause-receipts
returns-in-Ok-false-clause-receipts g c = c.in-Ok-false.ensures.goes_on.receipts c.args.seat.now.cursor.applied c.loop.invariant.4

pub returns-in-Ok-false-clause-follows : goal.returns-in-Ok-false-clause-follows
returns-in-Ok-false-clause-follows g c = λ follows. c.in-Ok-false.ensures.goes_on.follows (c.loop.invariant.5 follows)

pub returns-in-Err-clause-many : goal.returns-in-Err-clause-many
returns-in-Err-clause-many g c = λ n saw. c.in-Err.ensures.goes_on.many n (c.loop.invariant.3 n saw)

pub returns-in-Err-clause-receipts : goal.returns-in-Err-clause-receipts
returns-in-Err-clause-receipts g c = c.in-Err.ensures.goes_on.receipts c.args.seat.now.cursor.applied c.loop.invariant.4

pub returns-in-Err-clause-follows : goal.returns-in-Err-clause-follows
returns-in-Err-clause-follows g c = λ follows. c.in-Err.ensures.goes_on.follows (c.loop.invariant.5 follows)

pub returns-in-Ok-false-clause-steps : goal.returns-in-Ok-false-clause-steps
returns-in-Ok-false-clause-steps g c = stepped-trans c.args.feed.now c.args.seat.now c.loop.seat c.go_on.new.seat c.loop.invariant.2 c.loop.invariant.7 c.in-Ok-false.ensures.goes_on.stepped

pub returns-in-Err-clause-steps : goal.returns-in-Err-clause-steps
returns-in-Err-clause-steps g c = stepped-trans c.args.feed.now c.args.seat.now c.loop.seat c.go_on.new.seat c.loop.invariant.2 c.loop.invariant.7 c.in-Err.ensures.goes_on.stepped
