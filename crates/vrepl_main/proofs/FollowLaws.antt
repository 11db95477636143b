-- What the command `follow` makes, by what its inputs say.
use Rattle.std.proofs.Common.{◌≡◌, ◌∙◌, ap, sym, subst, arith, ℕ, ◌<◌, List, length, Option, Some, Result, Ok, Err}
use Rattle.std.specs.Prelude.{IfOk, slice_get, nat_lt, true}
use Rattle.std.specs.Arc.{arc_value}
use Rattle.std.specs.declared.sync.Arc.{Arc}
use Rattle.std.specs.declared.alloc.Global.{Global}
use Rattle.std.proofs.lemmas.Bool.{ltb-true}
use Rattle.std.proofs.lemmas.List.{length-map}
use Rattle.filter_rule.proofs.StepLaws.{list_all_get}
use Rattle.filter_rule.specs.PlanValue.{PlanValue}
use Rattle.source_feed.specs.Planned.{FeedValue}
use Rattle.apply_core.specs.Feeds.{AreFed}
use Rattle.apply_core.specs.Ended.{IsNamedStream}
use Rattle.apply_core.specs.RunRefused.{EndsRun, IsRefusedRun}
use Rattle.apply_core.specs.declared.run_refusal.RunRefusal.{RunRefusal}
use Rattle.apply_core.specs.declared.run_refusal.RunRefusal.TheVariants.{FeedCount, WrongPlan, Unsound, OwnedByOther, Memory}
use Rattle.board_laws.specs.FedBoards.{Fed}
use Rattle.board_laws.specs.Meaning.{Meaning}
use Rattle.checkpoint_laws.specs.Written.{checkpoint_of}
use Rattle.vrepl_main.specs.Followed.{FollowedValue, IsEndedRun, IsFollowed, IsTakenUp, RefusesFollow}
use Rattle.vrepl_main.specs.Running.{IsAtFeedsEnds}
use Rattle.vrepl_main.specs.declared.following.Unfollowed.{Unfollowed}
use Rattle.vrepl_main.specs.OnlyFollowed.{IsMovedOn, IsOnlyFollowed, IsStart, have_streams}
use Rattle.vrepl_main.specs.Opening.{OpenedValue}
use Rattle.vrepl_main.specs.Reasons.{Reason}

-- the checkpoint of a board at the feeds' ends
pub followed_by : (reading : Result OpenedValue Reason) (given : OpenedValue) (checkpoint : Option (List ℕ)) (followed : FollowedValue)
    → reading ≡ Ok given → slice_get given.plans 0 ≡ Some followed.plan → IsTakenUp given checkpoint → IsAtFeedsEnds given.feeds followed.board
    → followed.checkpoint ≡ checkpoint_of followed.board → IsFollowed reading checkpoint followed
followed_by reading given checkpoint followed is first up ends saved =
    subst (λ (r : Result OpenedValue Reason). IsFollowed r checkpoint followed) (sym is)
    (record {
      first = first;
      taken_up = up;
      ends = ends;
      is_checkpoint = saved;
    })

-- ---- some streams alone

-- streams that have a plan have a feed
pub streams_there : (only : List ℕ) (plans : List PlanValue) (feeds : List FeedValue) → have_streams only plans ≡ true → AreFed plans feeds → (s : ℕ) → IsNamedStream only s → s < length feeds
streams_there only plans feeds there fed s (i, at) =
    let within : s < length plans = ltb-true s (length plans) (list_all_get (λ t. nat_lt t (length plans)) only i s there at) in
    let many : length feeds ≡ length plans = sym (length-map feeds (λ (feed : FeedValue). feed.plan)) ∙ ap length fed.opened in
    omega (arith, within, many)

refused_run : (plans : List PlanValue) (feeds : List FeedValue) (refusal : RunRefusal) → AreFed plans feeds → EndsRun feeds refusal → IsRefusedRun plans feeds refusal
refused_run plans feeds FeedCount fed ends = absurd ends
refused_run plans feeds WrongPlan fed ends = absurd ends
refused_run plans feeds (Unsound stream fault) fed ends = (fed, ends)
refused_run plans feeds (OwnedByOther stream key owner) fed ends = (fed, ends)
refused_run plans feeds Memory fed ends = (fed, ends)

-- a run over the feeds that is refused refuses what goes on from there
pub ended_run : (given : OpenedValue) (checkpoint : Option (List ℕ)) (plan : Arc PlanValue Global) → slice_get given.plans 0 ≡ Some (arc_value plan) → AreFed given.plans given.feeds
    → IsTakenUp given checkpoint → (refusal : Unfollowed) → IsEndedRun plan given.feeds refusal → RefusesFollow refusal (Ok given) checkpoint
ended_run given checkpoint plan first fed up refusal (ended, is, ends) =
    subst (λ (r : Unfollowed). RefusesFollow r (Ok given) checkpoint) (sym is)
    (record { taken_up = up; refused = record { first = first; refused = refused_run given.plans given.feeds ended fed ends } })

-- the checkpoint of a board on which these streams have moved on
pub only_followed_by : (reading : Result OpenedValue Reason) (given : OpenedValue) (only : List ℕ) (checkpoint : Option (List ℕ)) (followed : FollowedValue)
    → reading ≡ Ok given → slice_get given.plans 0 ≡ Some followed.plan → (start : Meaning) × IsStart given checkpoint start × IsMovedOn given.feeds only start followed.board
    → followed.checkpoint ≡ checkpoint_of followed.board → IsOnlyFollowed reading only checkpoint followed
only_followed_by reading given only checkpoint followed is first (start, starts, moved) saved =
    subst (λ (r : Result OpenedValue Reason). IsOnlyFollowed r only checkpoint followed) (sym is)
    (record {
      first = first;
      start = start;
      starts = starts;
      moved = moved;
      is_checkpoint = saved;
    })

-- the board behind a run of these streams alone, from the board that it began with
pub moved_from : {E : Type 0} (given : OpenedValue) (checkpoint : Option (List ℕ)) (only : List ℕ) (start : Fed) → start.feeds ≡ given.feeds → IsStart given checkpoint start.board
    → (r : Result Fed E) → IfOk r (λ moved. IsMovedOn start.feeds only start.board moved.board)
    → IfOk r (λ moved. (begun : Meaning) × IsStart given checkpoint begun × IsMovedOn given.feeds only begun moved.board)
moved_from given checkpoint only start same starts (Ok moved) h = (start.board, starts, subst (λ (fs : List FeedValue). IsMovedOn fs only start.board moved.board) same h)
moved_from given checkpoint only start same starts (Err e) h = tt
