use Rattle.std.proofs.Common.{arith}
use Rattle.worker_rounds.proofs.StreamsOnRounds.{may-take}
use Rattle.worker_rounds.proofs.going.Going.next_to_take.Goals as goal

pub returns : goal.returns
returns g c =
    may-take g.J.Began.fed g.J.Began.most c.args.self.now c.is_on_round.ensures c.args.s c.numbers-read.result.0 c.numbers-read.result.1 c.requires.there c.numbers-read.ensures.read c.numbers-read.ensures.applied (omega (arith, c.if-applied-read.false)) (c.runs.ensures.yes c.if-not-runs.false) (c.may_apply.ensures.yes c.if-not-may_apply.false)
