use Rattle.worker_rounds.proofs.RoundsEnd.{at-first}
use Rattle.worker_rounds.proofs.going.Going.new.Goals as goal

pub invariant_of-result : goal.invariant_of-result
invariant_of-result g c =
    at-first g.J.Began.fed g.J.Began.most (record { board = c.args.board; stopped = c.args.stopped.items; first = c.args.first.items }) c.requires.board c.requires.fed c.requires.stopped c.requires.count c.requires.first
