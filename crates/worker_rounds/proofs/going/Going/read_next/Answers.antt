use Rattle.std.proofs.Common.{◌+◌}
use Rattle.stream_core.specs.declared.step.Step.TheVariants.{Offer}
use Rattle.worker_rounds.proofs.StepsOnRounds.{step-aside, aside-none}
use Rattle.worker_rounds.proofs.StreamsOnRounds.{runs-on, stops-on, offer-none, none-here}
use Rattle.worker_rounds.proofs.going.Going.read_next.Goals as goal

pub returns-then-applied-read-clause-applied : goal.returns-then-applied-read-clause-applied
returns-then-applied-read-clause-applied g c =
    none-here c.args.s c.args.self.now.board

pub returns-then-applied-read-clause-aside : goal.returns-then-applied-read-clause-aside
returns-then-applied-read-clause-aside g c =
    aside-none c.args.s c.args.self.now

pub returns-clause-runs : goal.returns-clause-runs
returns-clause-runs g c =
    runs-on g.J.Began.fed.feeds c.args.s (Offer (c.numbers-read.result.0 + 1)) c.step.result c.args.self.now c.step.new.self c.requires.runs c.step.ensures.step

pub returns-clause-stopped : goal.returns-clause-stopped
returns-clause-stopped g c =
    stops-on g.J.Began.fed.feeds c.args.s (Offer (c.numbers-read.result.0 + 1)) c.step.result c.args.self.now c.step.new.self c.requires.runs c.step.ensures.step

pub returns-clause-applied : goal.returns-clause-applied
returns-clause-applied g c =
    offer-none g.J.Began.fed.feeds c.args.s (c.numbers-read.result.0 + 1) c.step.result c.args.self.now c.step.new.self c.step.ensures.step

pub returns-clause-aside : goal.returns-clause-aside
returns-clause-aside g c =
    step-aside g.J.Began.fed.feeds c.args.s (Offer (c.numbers-read.result.0 + 1)) c.step.result c.args.self.now c.step.new.self c.step.ensures.step
