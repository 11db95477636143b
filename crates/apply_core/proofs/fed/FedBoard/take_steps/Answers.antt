use Rattle.std.proofs.Common.{◌≡◌, ◌≤◌, List, length, sym, ap, subst, ◌∙◌, arith}
use Rattle.source_feed.specs.Planned.{FeedValue}
use Rattle.std.specs.Prelude.{IfOk}
use Rattle.board_laws.specs.FedBoards.{Fed}
use Rattle.board_laws.specs.Meaning.{Meaning}
use Rattle.board_laws.specs.Schedule.{IsRun}
use Rattle.apply_core.specs.Ended.{IsFedBoard}
use Rattle.apply_core.proofs.OneRunLaws.{is-determined, of-any_order, doesnt-clash, all-run_alone_on, all-isolated}
use Rattle.apply_core.proofs.ScheduleLaws.{if-ok-also}
use Rattle.apply_core.proofs.fed.FedBoard.take_steps.Goals as goal

pub fed_replies-requires : goal.fed_replies-requires
fed_replies-requires c = subst (λ (fs : List FeedValue). IsFedBoard fs c.self.inside.board) (sym c.deref.ensures.value) c.self.invariant

pub invariant_of-self : goal.invariant_of-self
invariant_of-self c = subst (λ (fs : List FeedValue). IsFedBoard fs c.fed_replies.new.board) c.deref.ensures.value c.fed_replies.ensures.fed

pub returns-clause-shows : goal.returns-clause-shows
returns-clause-shows c =
    c.fed_boards_show_all.ensures.show c.self.inside.feeds.items c.fed_replies.new.board (subst (λ (fs : List FeedValue). IsFedBoard fs c.fed_replies.new.board) c.deref.ensures.value c.fed_replies.ensures.fed)

pub returns-clause-run : goal.returns-clause-run
returns-clause-run c =
    let feeds : c.deref.result.now ≡ c.args.self.now.feeds = c.deref.ensures.value ∙ ap (λ (f : Fed). f.feeds) c.self.view_is in
    let board : c.self.inside.board ≡ c.args.self.now.board = ap (λ (f : Fed). f.board) c.self.view_is in
    subst (λ (fs : List FeedValue). IfOk c.fed_replies.result (λ replies. IsRun fs c.args.self.now.board c.args.steps.now replies.items c.fed_replies.new.board)) feeds
    (subst (λ (b : Meaning). IfOk c.fed_replies.result (λ replies. IsRun c.deref.result.now b c.args.steps.now replies.items c.fed_replies.new.board)) board c.fed_replies.ensures.run)

pub returns-clause-determined : goal.returns-clause-determined
returns-clause-determined c =
    if-ok-also c.fed_replies.result
    (λ replies run. is-determined c.args.self.now.feeds c.args.self.now.board c.fed_replies.new.board c.args.steps.now replies.items run c.is_fed.ensures.lawful c.runs_are_determined.ensures)
    (returns-clause-run c)

pub returns-clause-order : goal.returns-clause-order
returns-clause-order c =
    let few : length c.args.self.now.board.streams ≤ length c.args.self.now.feeds = omega (arith, c.is_fed.ensures.count) in
    if-ok-also c.fed_replies.result
    (λ replies run. of-any_order c.args.self.now.feeds c.args.self.now.board c.fed_replies.new.board c.args.steps.now replies.items run c.is_fed.ensures.lawful c.agreeing_runs_show_alike.ensures.same few)
    (returns-clause-run c)

pub returns-clause-alone : goal.returns-clause-alone
returns-clause-alone c =
    if-ok-also c.fed_replies.result
    (λ replies run. all-run_alone_on c.args.self.now.feeds c.args.self.now.board c.fed_replies.new.board c.args.steps.now replies.items run c.is_fed.ensures.lawful c.streams_are_isolated.ensures.isolated c.streams_are_isolated.ensures.rows c.streams_follow_their_own_steps.ensures.lawful)
    (returns-clause-run c)

pub returns-clause-isolated : goal.returns-clause-isolated
returns-clause-isolated c =
    if-ok-also c.fed_replies.result
    (λ replies run. all-isolated c.args.self.now.feeds c.args.self.now.board c.fed_replies.new.board c.args.steps.now replies.items run c.is_fed.ensures.lawful c.agreeing_runs_show_alike.ensures.lone)
    (returns-clause-run c)

pub returns-clause-disjoint : goal.returns-clause-disjoint
returns-clause-disjoint c =
    if-ok-also c.fed_replies.result
    (λ replies run. doesnt-clash c.args.self.now.feeds c.args.self.now.board c.fed_replies.new.board c.args.steps.now replies.items run c.is_fed.ensures.lawful c.streams_read_their_feeds.ensures.disjoint c.is_fed.ensures.reads)
    (returns-clause-run c)
