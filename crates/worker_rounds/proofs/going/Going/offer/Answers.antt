use Rattle.std.proofs.Common.{None, refl, ap, ◌∙◌, slice_get}
use Rattle.std.proofs.lemmas.Option.{slice_get_within}
use Rattle.std.specs.Arc.{arc_value}
use Rattle.board_laws.specs.declared.answer.Answer.TheVariants.{Offered}
use Rattle.worker_rounds.specs.Private.OnRound.{Gone}
use Rattle.worker_rounds.proofs.GroupsTakenIn.{offered-plan, offered-ok, offered-err}
use Rattle.worker_rounds.proofs.going.Going.offer.Goals as goal

pub offer_own-requires : goal.offer_own-requires
offer_own-requires g c = offered-plan g.J.Began.fed g.J.Began.most (record { board = c.self.inside.board; stopped = c.self.inside.stopped.items; first = c.self.inside.first.items }) c.args.self.now (record { board = c.self.inside.board; stopped = c.self.inside.stopped.items; first = c.self.inside.first.items }) c.args.s c.self.invariant c.self.view_is c.requires.runs refl (arc_value c.args.group) c.requires.group

pub invariant_of-self : goal.invariant_of-self
invariant_of-self g c = (offered-ok g.J.Began.fed g.J.Began.most (record { board = c.self.inside.board; stopped = c.self.inside.stopped.items; first = c.self.inside.first.items }) c.args.self.now (record { board = c.offer_own.new.self; stopped = c.self.inside.stopped.items; first = c.self.inside.first.items }) c.args.s c.self.invariant c.self.view_is c.requires.runs refl (arc_value c.args.group) Offered c.offer_own.result c.in-Ok.field-0 c.in-Ok.is c.requires.group c.offer_own.ensures refl).0

pub put_stop-requires : goal.put_stop-requires
put_stop-requires g c = slice_get_within c.self.inside.stopped.items c.args.s None (ap (λ (x : Gone). slice_get x.stopped c.args.s) c.self.view_is ∙ c.requires.runs)

pub invariant_of-self-in-Err : goal.invariant_of-self-in-Err
invariant_of-self-in-Err g c = (offered-err g.J.Began.fed g.J.Began.most (record { board = c.self.inside.board; stopped = c.self.inside.stopped.items; first = c.self.inside.first.items }) c.args.self.now (record { board = c.offer_own.new.self; stopped = c.put_stop.new.stopped.items; first = c.self.inside.first.items }) c.args.s c.self.invariant c.self.view_is c.requires.runs refl (arc_value c.args.group) Offered c.offer_own.result c.in-Err.refusal c.in-Err.is c.requires.group c.offer_own.ensures c.put_stop.ensures).0

pub returns-in-Ok-clause-step : goal.returns-in-Ok-clause-step
returns-in-Ok-clause-step g c = (offered-ok g.J.Began.fed g.J.Began.most (record { board = c.self.inside.board; stopped = c.self.inside.stopped.items; first = c.self.inside.first.items }) c.args.self.now (record { board = c.offer_own.new.self; stopped = c.self.inside.stopped.items; first = c.self.inside.first.items }) c.args.s c.self.invariant c.self.view_is c.requires.runs refl (arc_value c.args.group) Offered c.offer_own.result c.in-Ok.field-0 c.in-Ok.is c.requires.group c.offer_own.ensures refl).1

pub returns-in-Err-clause-step : goal.returns-in-Err-clause-step
returns-in-Err-clause-step g c = (offered-err g.J.Began.fed g.J.Began.most (record { board = c.self.inside.board; stopped = c.self.inside.stopped.items; first = c.self.inside.first.items }) c.args.self.now (record { board = c.offer_own.new.self; stopped = c.put_stop.new.stopped.items; first = c.self.inside.first.items }) c.args.s c.self.invariant c.self.view_is c.requires.runs refl (arc_value c.args.group) Offered c.offer_own.result c.in-Err.refusal c.in-Err.is c.requires.group c.offer_own.ensures c.put_stop.ensures).1

pub returns-in-Ok-clause-round : goal.returns-in-Ok-clause-round
returns-in-Ok-clause-round g c = invariant_of-self g c

pub returns-in-Err-clause-round : goal.returns-in-Err-clause-round
returns-in-Err-clause-round g c = invariant_of-self-in-Err g c
