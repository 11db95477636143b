use Rattle.std.proofs.Common.{None, refl, ap, ◌∙◌, slice_get}
use Rattle.std.proofs.lemmas.Option.{slice_get_within}
use Rattle.worker_rounds.specs.Private.OnRound.{Gone}
use Rattle.worker_rounds.proofs.StepsOnRounds.{stepped-ok, stepped-err}
use Rattle.worker_rounds.proofs.going.Going.step.Goals as goal

pub invariant_of-self : goal.invariant_of-self
invariant_of-self g c =
    (stepped-ok g.J.Began.fed g.J.Began.most (record { board = c.self.inside.board; stopped = c.self.inside.stopped.items; first = c.self.inside.first.items }) c.args.self.now (record { board = c.take_step.new.self; stopped = c.self.inside.stopped.items; first = c.self.inside.first.items }) c.args.s c.args.step c.args.feeds.now c.take_step.result c.in-Ok.field-0 c.requires.feeds c.in-Ok.is c.take_step.ensures c.self.view_is c.self.invariant c.requires.onwards c.requires.runs c.requires.room refl refl).0

pub put_stop-requires : goal.put_stop-requires
put_stop-requires g c = slice_get_within c.self.inside.stopped.items c.args.s None (ap (λ (x : Gone). slice_get x.stopped c.args.s) c.self.view_is ∙ c.requires.runs)

pub invariant_of-self-in-Err : goal.invariant_of-self-in-Err
invariant_of-self-in-Err g c =
    (stepped-err g.J.Began.fed g.J.Began.most (record { board = c.self.inside.board; stopped = c.self.inside.stopped.items; first = c.self.inside.first.items }) c.args.self.now (record { board = c.take_step.new.self; stopped = c.put_stop.new.stopped.items; first = c.self.inside.first.items }) c.args.s c.args.step c.args.feeds.now c.take_step.result c.in-Err.refusal c.requires.feeds c.in-Err.is c.take_step.ensures c.self.view_is c.self.invariant c.requires.onwards c.requires.runs c.requires.room refl c.put_stop.ensures).0

pub returns-in-Ok-clause-round : goal.returns-in-Ok-clause-round
returns-in-Ok-clause-round g c = invariant_of-self g c

pub returns-in-Err-clause-round : goal.returns-in-Err-clause-round
returns-in-Err-clause-round g c = invariant_of-self-in-Err g c

pub returns-in-Ok-clause-step : goal.returns-in-Ok-clause-step
returns-in-Ok-clause-step g c =
    (stepped-ok g.J.Began.fed g.J.Began.most (record { board = c.self.inside.board; stopped = c.self.inside.stopped.items; first = c.self.inside.first.items }) c.args.self.now (record { board = c.take_step.new.self; stopped = c.self.inside.stopped.items; first = c.self.inside.first.items }) c.args.s c.args.step c.args.feeds.now c.take_step.result c.in-Ok.field-0 c.requires.feeds c.in-Ok.is c.take_step.ensures c.self.view_is c.self.invariant c.requires.onwards c.requires.runs c.requires.room refl refl).1

pub returns-in-Err-clause-step : goal.returns-in-Err-clause-step
returns-in-Err-clause-step g c =
    (stepped-err g.J.Began.fed g.J.Began.most (record { board = c.self.inside.board; stopped = c.self.inside.stopped.items; first = c.self.inside.first.items }) c.args.self.now (record { board = c.take_step.new.self; stopped = c.put_stop.new.stopped.items; first = c.self.inside.first.items }) c.args.s c.args.step c.args.feeds.now c.take_step.result c.in-Err.refusal c.requires.feeds c.in-Err.is c.take_step.ensures c.self.view_is c.self.invariant c.requires.onwards c.requires.runs c.requires.room refl c.put_stop.ensures).1
