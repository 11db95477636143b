use Rattle.std.proofs.Common.{List, subst}
use Rattle.source_feed.specs.Planned.{FeedValue}
use Rattle.board_laws.specs.FedBoards.{IsFedBoard}
use Rattle.board_laws.specs.Meaning.{Meaning}
use Rattle.worker_rounds.proofs.RoundsEnd.{round-told}
use Rattle.worker_rounds.proofs.round.round_of.Goals as goal

pub new-requires-clause-fed : goal.new-requires-clause-fed
new-requires-clause-fed g c =
    subst (λ (b : Meaning). IsFedBoard g.J.Began.fed.feeds b) c.requires.board (subst (λ (fs : List FeedValue). IsFedBoard fs c.args.board) c.requires.feeds c.requires.fed)

pub returns-clause-moved : goal.returns-clause-moved
returns-clause-moved g c =
    (round-told g.J.Began.fed g.J.Began.most c.args.most c.args.feeds.now c.args.board c.into_answers.result.0 c.go_through_all.new.self c.into_answers.result.1.items c.requires.feeds c.requires.board c.requires.most c.into_answers.ensures.board c.into_answers.ensures.round c.go_through_all.ensures c.into_answers.ensures.answers).0

pub returns-clause-answers : goal.returns-clause-answers
returns-clause-answers g c =
    (round-told g.J.Began.fed g.J.Began.most c.args.most c.args.feeds.now c.args.board c.into_answers.result.0 c.go_through_all.new.self c.into_answers.result.1.items c.requires.feeds c.requires.board c.requires.most c.into_answers.ensures.board c.into_answers.ensures.round c.go_through_all.ensures c.into_answers.ensures.answers).1

pub returns-clause-up_to : goal.returns-clause-up_to
returns-clause-up_to g c =
    (round-told g.J.Began.fed g.J.Began.most c.args.most c.args.feeds.now c.args.board c.into_answers.result.0 c.go_through_all.new.self c.into_answers.result.1.items c.requires.feeds c.requires.board c.requires.most c.into_answers.ensures.board c.into_answers.ensures.round c.go_through_all.ensures c.into_answers.ensures.answers).2

pub returns-clause-fed : goal.returns-clause-fed
returns-clause-fed g c =
    (round-told g.J.Began.fed g.J.Began.most c.args.most c.args.feeds.now c.args.board c.into_answers.result.0 c.go_through_all.new.self c.into_answers.result.1.items c.requires.feeds c.requires.board c.requires.most c.into_answers.ensures.board c.into_answers.ensures.round c.go_through_all.ensures c.into_answers.ensures.answers).3
