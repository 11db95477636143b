-- The board from which a session starts.
use Rattle.std.proofs.Common.{◌≡◌, ◌∙◌, inr, ℕ, List, Option, None, subst, sym, refl}
use Rattle.filter_rule.specs.PlanValue.{PlanValue}
use Rattle.source_feed.specs.Planned.{FeedValue}
use Rattle.board_laws.specs.FedBoards.{Fed, IsFedBoard}
use Rattle.board_laws.specs.Meaning.{Meaning}
use Rattle.apply_core.specs.Ended.{AllHaveEnded, IsRowsUnion}
use Rattle.apply_core.specs.Feeds.{AreFed}
use Rattle.apply_core.specs.RunRefused.{EndsRun, IsLowest, IsRefusedRun, StopsWanting}
use Rattle.apply_core.specs.declared.run_refusal.RunRefusal.{RunRefusal}
use Rattle.apply_core.specs.declared.run_refusal.RunRefusal.TheVariants.{FeedCount, WrongPlan, Unsound, OwnedByOther, Memory}
use Rattle.apply_core.specs.Shown.{all_rows}
use Rattle.live_core.specs.Live.{LiveValue}
use Rattle.live_opening.specs.Opened.{IsNotRun, IsTakenUp, IsWanting}
use Rattle.live_opening.specs.Private.Starting.{HasStarted}

-- a board that goes on from where its run has ended, of which nothing is told
pub started-by : (feeds : List FeedValue) (bytes : List (List ℕ)) (checkpoint : Option (List ℕ)) (fed : Fed) (live : LiveValue) → live ≡ record { fed = fed; bytes = bytes; told = None } → fed.feeds ≡ feeds → IsTakenUp feeds checkpoint
    → AllHaveEnded fed.feeds fed.board → IsRowsUnion fed.feeds (all_rows fed.board.rows) → HasStarted feeds bytes checkpoint live
started-by feeds bytes checkpoint fed live is same up ended rows =
    subst (λ (l : LiveValue). HasStarted feeds bytes checkpoint l) (sym is)
    (record {
      fed = same;
      known = refl;
      taken_up = up;
      ended = ended;
      rows = rows;
      untold = refl;
    })

-- ---- a run that is refused

refused_run : (plans : List PlanValue) (feeds : List FeedValue) (refusal : RunRefusal) → AreFed plans feeds → EndsRun feeds refusal → IsRefusedRun plans feeds refusal
refused_run plans feeds FeedCount fed ends = absurd ends
refused_run plans feeds WrongPlan fed ends = absurd ends
refused_run plans feeds (Unsound stream fault) fed ends = (fed, ends)
refused_run plans feeds (OwnedByOther stream key owner) fed ends = (fed, ends)
refused_run plans feeds Memory fed ends = (fed, ends)

wanting : (feeds : List FeedValue) (board : Meaning) (refusal : RunRefusal) → IsFedBoard feeds board → StopsWanting feeds board refusal → refusal ≡ Memory → IsWanting feeds
wanting feeds board refusal fed stops is =
    let wants = subst (λ (r : RunRefusal). StopsWanting feeds board r) is stops in
    record { board = board; fed = fed; s = wants.0; wants = wants.1 }

-- over feeds of these plans, behind a board that is taken up; the board has the feeds before and then
pub not-run : (plans : List PlanValue) (feeds before : List FeedValue) (left : Fed) (checkpoint : Option (List ℕ)) (refusal : RunRefusal) → before ≡ feeds → left.feeds ≡ before → AreFed plans feeds → IsTakenUp feeds checkpoint
    → EndsRun before refusal → IsLowest before refusal → IsFedBoard left.feeds left.board → StopsWanting left.feeds left.board refusal → IsNotRun plans feeds checkpoint refusal
not-run plans feeds before left checkpoint refusal same kept fed up ends lowest is stops = record {
  taken_up = up;
  refused = refused_run plans feeds refusal fed (subst (λ (fs : List FeedValue). EndsRun fs refusal) same ends);
  lowest = subst (λ (fs : List FeedValue). IsLowest fs refusal) same lowest;
  memory = λ memory. inr (subst IsWanting (kept ∙ same) (wanting left.feeds left.board refusal is stops memory));
}
