use Rattle.std.proofs.Common.{List, length, ap, subst, arith}
use Rattle.source_feed.specs.Planned.{FeedValue}
use Rattle.worker_rounds.specs.Rounds.{OfStream, HasAppliedAll}
use Rattle.worker_rounds.specs.Private.OnRound.{Gone}
use Rattle.worker_rounds.proofs.StreamsOnRounds.{read-at, streams-count, all-of}
use Rattle.worker_rounds.proofs.going.Going.has_all.Goals as goal

pub has_applied_all-requires : goal.has_applied_all-requires
has_applied_all-requires g c =
    omega (arith, c.requires.there, ap (λ (xs : List FeedValue). length xs) c.requires.feeds, streams-count g.J.Began.fed g.J.Began.most (record { board = c.self.inside.board; stopped = c.self.inside.stopped.items; first = c.self.inside.first.items }) c.self.invariant)

pub returns : goal.returns
returns g c = λ holds.
    subst (λ (x : Gone). OfStream (λ feed before after. HasAppliedAll feed after) g.J.Began.fed.feeds g.J.Began.fed.board x.board c.args.s) c.self.view_is
    (all-of g.J.Began.fed g.J.Began.most (record { board = c.self.inside.board; stopped = c.self.inside.stopped.items; first = c.self.inside.first.items }) c.self.invariant c.args.s c.index-feeds-s.result (read-at g.J.Began.fed.feeds c.args.feeds.now c.args.s c.index-feeds-s.result c.requires.feeds c.requires.there c.index-feeds-s.is) (c.has_applied_all.ensures.yes holds))
