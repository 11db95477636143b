use Rattle.std.proofs.Common.{◌≡◌, ◌<◌, ℕ, List, length, sym, ap, subst, ◌∙◌}
use Rattle.source_feed.specs.Planned.{FeedValue}
use Rattle.std.specs.Prelude.{OnOk, IfErr}
use Rattle.board_laws.specs.FedBoards.{Fed}
use Rattle.board_laws.specs.Meaning.{Meaning}
use Rattle.apply_core.specs.Ended.{AreAsBefore, HaveEnded, IsFedBoard, IsNamedStream}
use Rattle.apply_core.specs.RunRefused.{EndsRun, StopsWanting}
use Rattle.apply_core.proofs.fed.FedBoard.run_streams.Goals as goal

pub run_named-requires-clause-fed : goal.run_named-requires-clause-fed
run_named-requires-clause-fed c = subst (λ (fs : List FeedValue). IsFedBoard fs c.self.inside.board) (sym c.deref.ensures.value) c.self.invariant

pub run_named-requires-clause-there : goal.run_named-requires-clause-there
run_named-requires-clause-there c =
    let feeds : c.deref.result.now ≡ c.args.self.now.feeds = c.deref.ensures.value ∙ ap (λ (f : Fed). f.feeds) c.self.view_is in
    subst (λ (fs : List FeedValue). (s : ℕ) → IsNamedStream c.args.streams.now s → s < length fs) (sym feeds) c.requires

pub invariant_of-self : goal.invariant_of-self
invariant_of-self c = subst (λ (fs : List FeedValue). IsFedBoard fs c.run_named.new.board) c.deref.ensures.value c.run_named.ensures.fed

pub returns-clause-shows : goal.returns-clause-shows
returns-clause-shows c =
    c.fed_boards_show_all.ensures.show c.self.inside.feeds.items c.run_named.new.board (subst (λ (fs : List FeedValue). IsFedBoard fs c.run_named.new.board) c.deref.ensures.value c.run_named.ensures.fed)

pub returns-clause-ended : goal.returns-clause-ended
returns-clause-ended c = subst (λ (fs : List FeedValue). OnOk c.run_named.result (HaveEnded c.args.streams.now fs c.run_named.new.board)) c.deref.ensures.value c.run_named.ensures.ended

pub returns-clause-others : goal.returns-clause-others
returns-clause-others c =
    let board : c.self.inside.board ≡ c.args.self.now.board = ap (λ (f : Fed). f.board) c.self.view_is in
    subst (λ (b : Meaning). OnOk c.run_named.result (AreAsBefore c.args.streams.now b c.run_named.new.board)) board c.run_named.ensures.others

pub returns-clause-refused : goal.returns-clause-refused
returns-clause-refused c =
    let feeds : c.deref.result.now ≡ c.args.self.now.feeds = c.deref.ensures.value ∙ ap (λ (f : Fed). f.feeds) c.self.view_is in
    subst (λ (fs : List FeedValue). IfErr c.run_named.result (EndsRun fs)) feeds c.run_named.ensures.refused

pub returns-clause-memory : goal.returns-clause-memory
returns-clause-memory c = subst (λ (fs : List FeedValue). IfErr c.run_named.result (StopsWanting fs c.run_named.new.board)) c.deref.ensures.value c.run_named.ensures.memory
