use Rattle.std.proofs.Common.{List, subst, sym}
use Rattle.source_feed.specs.Planned.{FeedValue}
use Rattle.worker_rounds.specs.Rounds.{HaveEndedAs}
use Rattle.worker_rounds.proofs.RoundsEnd.{still-moved, still-upto, have-ended}
use Rattle.worker_rounds.proofs.round.run_round.Goals as goal

pub returns-in_err-room-clause-moved : goal.returns-in_err-room-clause-moved
returns-in_err-room-clause-moved g c =
    still-moved c.args.fed.now.feeds c.args.fed.now.board

pub returns-in_err-room-clause-up_to : goal.returns-in_err-room-clause-up_to
returns-in_err-room-clause-up_to g c =
    still-upto c.args.most c.args.fed.now.board

pub returns-in_err-room-clause-shows : goal.returns-in_err-room-clause-shows
returns-in_err-room-clause-shows g c =
    c.fed_boards_show_all.ensures.show c.args.fed.now.feeds c.args.fed.now.board c.is_fed.ensures

pub returns-clause-shows : goal.returns-clause-shows
returns-clause-shows g c =
    c.fed_boards_show_all.ensures.show c.round_with-answers.new.fed.feeds c.round_with-answers.new.fed.board c.is_fed-2.ensures

pub returns-clause-ended : goal.returns-clause-ended
returns-clause-ended g c =
    λ running.
    subst (λ (fs : List FeedValue). HaveEndedAs c.round_with-answers.result.items fs c.round_with-answers.new.fed.board) (sym c.round_with-answers.ensures.feeds)
    (have-ended c.args.most c.args.fed.now.feeds c.args.fed.now.board c.round_with-answers.new.fed.board c.round_with-answers.result.items c.is_fed.ensures.lawful c.round_with-answers.ensures.moved running c.round_with-answers.ensures.answers)
