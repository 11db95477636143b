use Rattle.std.proofs.Common.{◌≡◌, ◌∙◌, ap, subst, List}
use Rattle.source_feed.specs.Planned.{FeedValue}
use Rattle.board_laws.specs.FedBoards.{Fed, IsFedBoard}
use Rattle.board_laws.specs.Sources.{ShowAll}
use Rattle.vrepl_main.specs.SavedBoard.{IsBehind}
use Rattle.vrepl_main.proofs.saving.board_behind.Goals as goal

pub returns-clause-taken : goal.returns-clause-taken
returns-clause-taken c =
    subst (λ (f : Fed). IsBehind f.feeds f.board c.args.steps.now c.in_ok-refused.refused c.take_quietly.new.fed.board) c.in_ok-fed.ensures.fresh c.in_ok-refused.ensures.behind

pub returns-clause-fed : goal.returns-clause-fed
returns-clause-fed c =
    subst (λ (fs : List FeedValue). IsFedBoard fs c.take_quietly.new.fed.board) (c.take_quietly.ensures.feeds ∙ ap (λ (f : Fed). f.feeds) c.in_ok-fed.ensures.fresh) c.is_fed.ensures

pub returns-clause-sources : goal.returns-clause-sources
returns-clause-sources c =
    subst (λ (fs : List FeedValue). ShowAll fs c.take_quietly.new.fed.board) (c.take_quietly.ensures.feeds ∙ ap (λ (f : Fed). f.feeds) c.in_ok-fed.ensures.fresh) c.shows.ensures
