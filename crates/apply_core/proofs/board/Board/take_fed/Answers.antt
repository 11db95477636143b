use Rattle.apply_core.proofs.FedLaws.{plan-of, none-there, reply-no_stream, reply-fed}
use Rattle.apply_core.proofs.board.Board.take_fed.Goals as goal

pub step_own-requires : goal.step_own-requires
step_own-requires c = plan-of c.args.feeds.now c.args.self.now c.requires c.args.s c.in-Some.feed.now c.in-Some.ensures.some

pub returns-in-None-clause-reply : goal.returns-in-None-clause-reply
returns-in-None-clause-reply c = reply-no_stream c.args.feeds.now c.args.self.now c.args.s c.args.step (none-there c.args.feeds.now c.args.self.now c.requires c.args.s c.in-None.ensures.none)

pub returns-in-Some-clause-reply : goal.returns-in-Some-clause-reply
returns-in-Some-clause-reply c =
    reply-fed c.args.feeds.now c.args.self.now c.requires c.args.s c.step_own.new.self c.args.step c.step_own.result c.in-Some.feed.now c.in-Some.ensures.some c.step_own.ensures

pub returns-in-Some-clause-fed : goal.returns-in-Some-clause-fed
returns-in-Some-clause-fed c =
    c.fed_boards_show_all.ensures.step c.args.feeds.now c.args.self.now c.step_own.new.self (c.args.s, c.args.step) c.step_own.result
    (reply-fed c.args.feeds.now c.args.self.now c.requires c.args.s c.step_own.new.self c.args.step c.step_own.result c.in-Some.feed.now c.in-Some.ensures.some c.step_own.ensures) c.requires
