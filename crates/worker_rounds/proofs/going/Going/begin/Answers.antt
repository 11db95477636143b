use Rattle.std.proofs.Common.{Some, sym, ap, ◌∙◌}
use Rattle.pk_copy.specs.Marks.{Marks}
use Rattle.worker_rounds.proofs.StreamsOnRounds.{not-none, marks-begun}
use Rattle.worker_rounds.proofs.going.Going.begin.Goals as goal

pub unreachable-requires : goal.unreachable-requires
unreachable-requires g c =
    not-none g.J.Began.fed g.J.Began.most (record { board = c.self.inside.board; stopped = c.self.inside.stopped.items; first = c.self.inside.first.items }) c.self.invariant c.args.s c.requires c.in_default.ensures.no_stream.1

pub unreachable-requires-in_default-marks : goal.unreachable-requires-in_default-marks
unreachable-requires-in_default-marks g c =
    not-none g.J.Began.fed g.J.Began.most (record { board = c.self.inside.board; stopped = c.self.inside.stopped.items; first = c.self.inside.first.items }) c.self.invariant c.args.s c.requires c.in_default-marks.ensures.no_stream.1

pub returns : goal.returns
returns g c =
    marks-begun g.J.Began.fed g.J.Began.most (record { board = c.self.inside.board; stopped = c.self.inside.stopped.items; first = c.self.inside.first.items }) c.self.invariant c.args.s c.in-Ok-marks.marks.now c.requires c.in-Ok-marks.ensures.marks ∙ ap (λ (m : Marks). Some m) (sym c.in_ok-marks.ensures)
