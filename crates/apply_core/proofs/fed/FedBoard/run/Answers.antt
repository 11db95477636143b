use Rattle.std.proofs.Common.{◌≡◌, List, sym, ap, subst, ◌∙◌}
use Rattle.source_feed.specs.Planned.{FeedValue}
use Rattle.std.specs.Prelude.{OnOk, IfErr}
use Rattle.board_laws.specs.FedBoards.{Fed}
use Rattle.apply_core.specs.Ended.{IsFedBoard, AllHaveEnded}
use Rattle.apply_core.specs.LowerEnded.{LowerHaveEnded}
use Rattle.apply_core.specs.RunRefused.{EndsRun, StopsWanting, IsLowest}
use Rattle.apply_core.proofs.FedLaws.{on-ok}
use Rattle.apply_core.proofs.fed.FedBoard.run.Goals as goal

pub run_all-requires : goal.run_all-requires
run_all-requires c = subst (λ (fs : List FeedValue). IsFedBoard fs c.self.inside.board) (sym c.deref.ensures.value) c.self.invariant

pub invariant_of-self : goal.invariant_of-self
invariant_of-self c = subst (λ (fs : List FeedValue). IsFedBoard fs c.run_all.new.board) c.deref.ensures.value c.run_all.ensures.fed

pub returns-clause-shows : goal.returns-clause-shows
returns-clause-shows c =
    c.fed_boards_show_all.ensures.show c.self.inside.feeds.items c.run_all.new.board (subst (λ (fs : List FeedValue). IsFedBoard fs c.run_all.new.board) c.deref.ensures.value c.run_all.ensures.fed)

pub returns-clause-ended : goal.returns-clause-ended
returns-clause-ended c = subst (λ (fs : List FeedValue). OnOk c.run_all.result (AllHaveEnded fs c.run_all.new.board)) c.deref.ensures.value c.run_all.ensures.ended

pub returns-clause-rows : goal.returns-clause-rows
returns-clause-rows c =
    on-ok c.run_all.result
    (λ ended. c.ended_boards_have_the_union.ensures.rows c.self.inside.feeds.items c.run_all.new.board (subst (λ (fs : List FeedValue). IsFedBoard fs c.run_all.new.board) c.deref.ensures.value c.run_all.ensures.fed) ended)
    (subst (λ (fs : List FeedValue). OnOk c.run_all.result (AllHaveEnded fs c.run_all.new.board)) c.deref.ensures.value c.run_all.ensures.ended)

pub returns-clause-refused : goal.returns-clause-refused
returns-clause-refused c =
    let feeds : c.deref.result.now ≡ c.args.self.now.feeds = c.deref.ensures.value ∙ ap (λ (f : Fed). f.feeds) c.self.view_is in
    subst (λ (fs : List FeedValue). IfErr c.run_all.result (EndsRun fs)) feeds c.run_all.ensures.refused

pub returns-clause-sound : goal.returns-clause-sound
returns-clause-sound c =
    on-ok c.run_all.result
    (λ ended. c.ended_boards_have_the_union.ensures.sound c.self.inside.feeds.items c.run_all.new.board (subst (λ (fs : List FeedValue). IsFedBoard fs c.run_all.new.board) c.deref.ensures.value c.run_all.ensures.fed) ended)
    (subst (λ (fs : List FeedValue). OnOk c.run_all.result (AllHaveEnded fs c.run_all.new.board)) c.deref.ensures.value c.run_all.ensures.ended)

pub returns-clause-lowest : goal.returns-clause-lowest
returns-clause-lowest c =
    let feeds : c.deref.result.now ≡ c.args.self.now.feeds = c.deref.ensures.value ∙ ap (λ (f : Fed). f.feeds) c.self.view_is in
    subst (λ (fs : List FeedValue). IfErr c.run_all.result (IsLowest fs)) feeds c.run_all.ensures.lowest

pub returns-clause-memory : goal.returns-clause-memory
returns-clause-memory c = subst (λ (fs : List FeedValue). IfErr c.run_all.result (StopsWanting fs c.run_all.new.board)) c.deref.ensures.value c.run_all.ensures.memory

pub returns-clause-lower : goal.returns-clause-lower
returns-clause-lower c = subst (λ (fs : List FeedValue). IfErr c.run_all.result (LowerHaveEnded fs c.run_all.new.board)) c.deref.ensures.value c.run_all.ensures.lower
