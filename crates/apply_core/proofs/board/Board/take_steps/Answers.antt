use Rattle.apply_core.proofs.ScheduleLaws.{if-ok-also, on-ok-by}
use Rattle.apply_core.proofs.board.Board.take_steps.Goals as goal

pub returns-clause-own : goal.returns-clause-own
returns-clause-own c =
    if-ok-also c.replies_to.result (λ replies run. c.streams_follow_their_own_steps.ensures.follow c.args.feeds.now c.args.self.now c.replies_to.new.board c.args.steps.now replies.items run) c.replies_to.ensures.run

pub returns-clause-reads : goal.returns-clause-reads
returns-clause-reads c =
    on-ok-by c.replies_to.result (λ replies run. c.streams_read_their_feeds.ensures.reads c.args.feeds.now c.args.self.now c.replies_to.new.board c.args.steps.now replies.items run) c.replies_to.ensures.run

pub returns-clause-shows : goal.returns-clause-shows
returns-clause-shows c =
    on-ok-by c.replies_to.result
    (λ replies run fed.
    c.fed_boards_show_all.ensures.show c.args.feeds.now c.replies_to.new.board
    (c.fed_boards_show_all.ensures.run c.args.feeds.now c.args.self.now c.replies_to.new.board c.args.steps.now replies.items run fed))
    c.replies_to.ensures.run

pub returns-clause-same : goal.returns-clause-same
returns-clause-same c = c.agreeing_runs_show_alike.ensures.same

pub returns-clause-lone : goal.returns-clause-lone
returns-clause-lone c = c.agreeing_runs_show_alike.ensures.lone

pub returns-clause-never : goal.returns-clause-never
returns-clause-never c = c.streams_read_their_feeds.ensures.disjoint

pub returns-clause-alike : goal.returns-clause-alike
returns-clause-alike c = c.agreeing_runs_show_alike.ensures.disjoint
