use Rattle.std.proofs.Common.{refl}
use Rattle.worker_rounds.proofs.StreamsOnRounds.{read-at, running-by, stopped-by}
use Rattle.worker_rounds.proofs.going.is_running.Goals as goal

pub returns-clause-yes : goal.returns-clause-yes
returns-clause-yes c =
    λ holds. running-by c.args.stopped.now c.args.s c.index-stopped-s.result c.is_none.result (read-at c.args.stopped.now c.args.stopped.now c.args.s c.index-stopped-s.result refl c.requires c.index-stopped-s.is) c.is_none.ensures holds

pub returns-clause-no : goal.returns-clause-no
returns-clause-no c =
    λ fails. stopped-by c.args.stopped.now c.args.s c.index-stopped-s.result c.is_none.result (read-at c.args.stopped.now c.args.stopped.now c.args.s c.index-stopped-s.result refl c.requires c.index-stopped-s.is) c.is_none.ensures fails
