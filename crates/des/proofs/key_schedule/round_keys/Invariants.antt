use Rattle.des.specs.Private.Scheduled.{IsScheduled}
use Rattle.des.proofs.key_schedule.round_keys.Given as goal

abbrev pub invariant-loop-round : goal.invariant-loop-round
invariant-loop-round l = IsScheduled l.key l.round l.left l.right l.odd l.even
