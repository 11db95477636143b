use Rattle.std.proofs.Common.{None, refl, ap, ◌∙◌, slice_get}
use Rattle.std.proofs.lemmas.Option.{slice_get_within}
use Rattle.board_laws.specs.declared.answer.Answer.TheVariants.{Applied}
use Rattle.worker_rounds.specs.Private.OnRound.{Gone}
use Rattle.worker_rounds.proofs.GroupsTakenIn.{advanced-ok, advanced-err}
use Rattle.worker_rounds.proofs.going.Going.advance.Goals as goal

pub invariant_of-self : goal.invariant_of-self
invariant_of-self g c = (advanced-ok g.J.Began.fed g.J.Began.most (record { board = c.self.inside.board; stopped = c.self.inside.stopped.items; first = c.self.inside.first.items }) c.args.self.now (record { board = c.advance_by.new.self; stopped = c.self.inside.stopped.items; first = c.self.inside.first.items }) c.args.s c.self.invariant c.self.view_is c.requires.runs refl (λ made. Applied made.0) c.advance_by.result _ c.in-Ok.is c.requires.room c.advance_by.ensures refl).0

pub put_stop-requires : goal.put_stop-requires
put_stop-requires g c = slice_get_within c.self.inside.stopped.items c.args.s None (ap (λ (x : Gone). slice_get x.stopped c.args.s) c.self.view_is ∙ c.requires.runs)

pub invariant_of-self-in-Err : goal.invariant_of-self-in-Err
invariant_of-self-in-Err g c = (advanced-err g.J.Began.fed g.J.Began.most (record { board = c.self.inside.board; stopped = c.self.inside.stopped.items; first = c.self.inside.first.items }) c.args.self.now (record { board = c.advance_by.new.self; stopped = c.put_stop.new.stopped.items; first = c.self.inside.first.items }) c.args.s c.self.invariant c.self.view_is c.requires.runs refl (λ made. Applied made.0) c.advance_by.result c.in-Err.refusal c.in-Err.is c.requires.room c.advance_by.ensures c.put_stop.ensures).0

pub returns-in-Ok : goal.returns-in-Ok
returns-in-Ok g c = record { step = (advanced-ok g.J.Began.fed g.J.Began.most (record { board = c.self.inside.board; stopped = c.self.inside.stopped.items; first = c.self.inside.first.items }) c.args.self.now (record { board = c.advance_by.new.self; stopped = c.self.inside.stopped.items; first = c.self.inside.first.items }) c.args.s c.self.invariant c.self.view_is c.requires.runs refl (λ made. Applied made.0) c.advance_by.result _ c.in-Ok.is c.requires.room c.advance_by.ensures refl).1 }

pub returns-in-Err : goal.returns-in-Err
returns-in-Err g c = record { step = (advanced-err g.J.Began.fed g.J.Began.most (record { board = c.self.inside.board; stopped = c.self.inside.stopped.items; first = c.self.inside.first.items }) c.args.self.now (record { board = c.advance_by.new.self; stopped = c.put_stop.new.stopped.items; first = c.self.inside.first.items }) c.args.s c.self.invariant c.self.view_is c.requires.runs refl (λ made. Applied made.0) c.advance_by.result c.in-Err.refusal c.in-Err.is c.requires.room c.advance_by.ensures c.put_stop.ensures).1 }
