use Rattle.std.proofs.Common.{List, length, sym, ap, subst, ◌∙◌, arith}
use Rattle.source_feed.specs.Planned.{FeedValue}
use Rattle.worker_rounds.specs.Private.OnRound.{Gone, AreAnswersBy}
use Rattle.worker_rounds.proofs.StreamsOnRounds.{streams-count}
use Rattle.worker_rounds.proofs.going.Going.into_answers.Goals as goal

pub answers_of-answers-requires-clause-streams : goal.answers_of-answers-requires-clause-streams
answers_of-answers-requires-clause-streams g c =
    streams-count g.J.Began.fed g.J.Began.most (record { board = c.self.inside.board; stopped = c.self.inside.stopped.items; first = c.self.inside.first.items }) c.self.invariant ∙ ap (λ (fs : List FeedValue). length fs) (sym c.requires.feeds)

pub answers_of-answers-requires-clause-count : goal.answers_of-answers-requires-clause-count
answers_of-answers-requires-clause-count g c =
    c.self.invariant.count ∙ ap (λ (fs : List FeedValue). length fs) (sym c.requires.feeds)

pub answers_of-answers-requires-clause-few : goal.answers_of-answers-requires-clause-few
answers_of-answers-requires-clause-few g c =
    omega (arith, c.self.invariant.begun.lawful.few, c.self.invariant.begun.count, ap (λ (fs : List FeedValue). length fs) (sym c.requires.feeds))

pub returns-clause-answers : goal.returns-clause-answers
returns-clause-answers g c =
    subst (λ (x : Gone). AreAnswersBy g.J.Began.fed.feeds x.board x.stopped c.answers_of-answers.result.items) c.self.view_is
    (subst (λ (fs : List FeedValue). AreAnswersBy fs c.self.inside.board c.self.inside.stopped.items c.answers_of-answers.result.items) c.requires.feeds c.answers_of-answers.ensures)
