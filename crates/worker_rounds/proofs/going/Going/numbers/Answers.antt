use Rattle.std.proofs.Common.{length, refl, arith}
use Rattle.stream_core.specs.Standing.{Standing}
use Rattle.board_laws.specs.Meaning.{State}
use Rattle.worker_rounds.proofs.StreamsOnRounds.{not-none, read-short, number-seen}
use Rattle.worker_rounds.proofs.going.Going.numbers.Goals as goal

pub unreachable-requires : goal.unreachable-requires
unreachable-requires g c =
    not-none g.J.Began.fed g.J.Began.most (record { board = c.self.inside.board; stopped = c.self.inside.stopped.items; first = c.self.inside.first.items }) c.self.invariant c.args.s c.requires c.in_default.ensures.no_stream.1

pub returns-clause-read : goal.returns-clause-read
returns-clause-read g c =
    number-seen (record { board = c.self.inside.board; stopped = c.self.inside.stopped.items; first = c.self.inside.first.items }) c.args.self.now c.args.s c.read.result c.in-Ok.at (λ (x : Standing). x.read) (λ (state : State). length state.list) c.self.view_is (λ state. refl) c.read.ensures c.in-Ok.ensures.state

pub returns-clause-applied : goal.returns-clause-applied
returns-clause-applied g c =
    number-seen (record { board = c.self.inside.board; stopped = c.self.inside.stopped.items; first = c.self.inside.first.items }) c.args.self.now c.args.s c.applied.result c.in-Ok.at (λ (x : Standing). x.applied) (λ (state : State). state.applied) c.self.view_is (λ state. refl) c.applied.ensures c.in-Ok.ensures.state

pub returns-clause-short : goal.returns-clause-short
returns-clause-short g c =
    let short = read-short g.J.Began.fed g.J.Began.most (record { board = c.self.inside.board; stopped = c.self.inside.stopped.items; first = c.self.inside.first.items }) c.self.invariant c.steps_keep_boards_lawful.ensures.short c.args.s c.in-Ok.at c.is_lawful.ensures c.requires c.in-Ok.ensures.state in omega (arith, short, c.read.ensures)
