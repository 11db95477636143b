use Rattle.std.proofs.Common.{List, refl, subst}
use Rattle.source_feed.specs.Planned.{FeedValue}
use Rattle.apply_core.specs.RunRefused.{EndsRun}
use Rattle.vrepl_main.specs.Followed.{IsTakenUp, saved_asked}
use Rattle.vrepl_main.specs.OpenedFeeds.{opened_over}
use Rattle.vrepl_main.specs.Running.{IsAtFeedsEnds}
use Rattle.vrepl_main.proofs.FollowLaws.{ended_run}
use Rattle.vrepl_main.specs.declared.following.Unfollowed.TheVariants.{Stream}
use Rattle.vrepl_main.proofs.following.board_at_ends.Goals as goal

pub returns-in-Ok-run_on_from-clause-ends : goal.returns-in-Ok-run_on_from-clause-ends
returns-in-Ok-run_on_from-clause-ends g c = subst (λ (fs : List FeedValue). IsAtFeedsEnds fs c.in-Ok-run_on_from.fed.board) c.in-Ok-resume.ensures.feeds c.in-Ok-run_on_from.ensures.ends

pub returns-clause-refused : goal.returns-clause-refused
returns-clause-refused g c =
    let given = opened_over c.args.plans.items c.args.feeds.items in
    let up : IsTakenUp given (saved_asked c.args.inputs.now) = rw c.in-Some.is (c.in-Ok-resume.fed.board, c.in-Ok-resume.ensures.resumed) in
    ended_run given (saved_asked c.args.inputs.now) c.in_ok-plan.plan (rw c.deref.ensures.value at c.in_ok-plan.ensures) (rw c.deref-2.ensures.value at c.in-Ok-resume.ensures.fed) up
    (Stream c.in_ok-plan.plan c.in-Err-run_on_from.refusal)
    (c.in-Err-run_on_from.refusal, refl, subst (λ (fs : List FeedValue). EndsRun fs c.in-Err-run_on_from.refusal) c.in-Ok-resume.ensures.feeds c.in-Err-run_on_from.ensures.refused)
