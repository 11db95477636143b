use Rattle.std.proofs.Common.{◌≡◌, List, sym, ap, subst, ◌∙◌}
use Rattle.source_feed.specs.Planned.{FeedValue}
use Rattle.board_laws.specs.FedBoards.{Fed}
use Rattle.board_laws.specs.Meaning.{Meaning}
use Rattle.board_laws.specs.Schedule.{IsReply}
use Rattle.apply_core.specs.Ended.{IsFedBoard}
use Rattle.apply_core.proofs.FedLaws.{exact-of}
use Rattle.apply_core.proofs.fed.FedBoard.take_step.Goals as goal

pub take_fed-requires : goal.take_fed-requires
take_fed-requires c = subst (λ (fs : List FeedValue). IsFedBoard fs c.self.inside.board) (sym c.deref.ensures.value) c.self.invariant

pub invariant_of-self : goal.invariant_of-self
invariant_of-self c = subst (λ (fs : List FeedValue). IsFedBoard fs c.take_fed.new.self) c.deref.ensures.value c.take_fed.ensures.fed

pub returns-clause-shows : goal.returns-clause-shows
returns-clause-shows c =
    c.fed_boards_show_all.ensures.show c.self.inside.feeds.items c.take_fed.new.self (subst (λ (fs : List FeedValue). IsFedBoard fs c.take_fed.new.self) c.deref.ensures.value c.take_fed.ensures.fed)

pub returns-clause-reply : goal.returns-clause-reply
returns-clause-reply c =
    let feeds : c.deref.result.now ≡ c.args.self.now.feeds = c.deref.ensures.value ∙ ap (λ (f : Fed). f.feeds) c.self.view_is in
    let board : c.self.inside.board ≡ c.args.self.now.board = ap (λ (f : Fed). f.board) c.self.view_is in
    subst (λ (fs : List FeedValue). IsReply fs c.args.self.now.board (c.args.s, c.args.step) c.take_fed.result c.take_fed.new.self) feeds
    (subst (λ (b : Meaning). IsReply c.deref.result.now b (c.args.s, c.args.step) c.take_fed.result c.take_fed.new.self) board c.take_fed.ensures.reply)

pub returns-clause-exact : goal.returns-clause-exact
returns-clause-exact c = exact-of c.args.self.now.feeds c.args.self.now.board c.is_fed.ensures c.args.s c.take_fed.new.self c.args.step c.take_fed.result (returns-clause-reply c)
