use Rattle.std.proofs.Common.{◌≡◌, ◌<◌, ap, map, ℕ, length, subst, sym, List}
use Rattle.std.proofs.lemmas.Result.{IfErr-weaker}
use Rattle.std.specs.Arc.{arc_value}
use Rattle.std.specs.Prelude.{IfOk, IfErr}
use Rattle.source_feed.specs.Planned.{FeedValue}
use Rattle.board_laws.specs.FedBoards.{Fed}
use Rattle.board_laws.specs.Meaning.{Meaning}
use Rattle.apply_core.specs.Ended.{IsNamedStream}
use Rattle.vrepl_main.specs.Followed.{HasNotFollowed, IsEndedRun, IsTakenUp, saved_asked}
use Rattle.vrepl_main.specs.OnlyFollowed.{HasMovedOn, IsMovedOn}
use Rattle.vrepl_main.specs.OpenedFeeds.{opened_over}
use Rattle.vrepl_main.proofs.FollowLaws.{ended_run, moved_from, streams_there}
use Rattle.vrepl_main.proofs.following_only.board_moved_on.Goals as goal

pub move_on-requires : goal.move_on-requires
move_on-requires g c =
    subst (λ (f : Fed). (s : ℕ) → IsNamedStream c.args.only.now s → s < length f.feeds) (sym c.in_ok-fed.ensures.fresh)
    (streams_there c.args.only.now (map arc_value c.args.plans.items) c.args.feeds.items c.requires.there c.in_ok-fed.ensures.fed)

pub move_on-requires-2 : goal.move_on-requires-2
move_on-requires-2 g c =
    subst (λ (fs : List FeedValue). (s : ℕ) → IsNamedStream c.args.only.now s → s < length fs) (sym c.in-Ok.ensures.feeds)
    (streams_there c.args.only.now (map arc_value c.args.plans.items) c.args.feeds.items c.requires.there (rw c.deref-2.ensures.value at c.in-Ok.ensures.fed))

pub returns-in_default-clause-moved : goal.returns-in_default-clause-moved
returns-in_default-clause-moved g c =
    moved_from (opened_over c.args.plans.items c.args.feeds.items) (saved_asked c.args.inputs.now) c.args.only.now c.in_ok-fed.fed (ap (λ (f : Fed). f.feeds) c.in_ok-fed.ensures.fresh)
    (rw c.in_default.is (ap (λ (f : Fed). f.board) c.in_ok-fed.ensures.fresh)) c.move_on.result c.move_on.ensures.moved

pub returns-clause-moved : goal.returns-clause-moved
returns-clause-moved g c =
    moved_from (opened_over c.args.plans.items c.args.feeds.items) (saved_asked c.args.inputs.now) c.args.only.now c.in-Ok.fed c.in-Ok.ensures.feeds (rw c.in-Some.is c.in-Ok.ensures.resumed) c.move_on-2.result c.move_on-2.ensures.moved

pub returns-clause-refused : goal.returns-clause-refused
returns-clause-refused g c =
    let given = opened_over c.args.plans.items c.args.feeds.items in
    let up : IsTakenUp given (saved_asked c.args.inputs.now) = rw c.in-Some.is (c.in-Ok.fed.board, c.in-Ok.ensures.resumed) in
    IfErr-weaker c.move_on-2.result (IsEndedRun c.in_ok-plan.plan c.args.feeds.items) (HasNotFollowed c.args.plans.items c.args.feeds.items c.args.inputs.now)
    (ended_run given (saved_asked c.args.inputs.now) c.in_ok-plan.plan (rw c.deref.ensures.value at c.in_ok-plan.ensures) (rw c.deref-2.ensures.value at c.in-Ok.ensures.fed) up)
    (subst (λ (fs : List FeedValue). IfErr c.move_on-2.result (IsEndedRun c.in_ok-plan.plan fs)) c.in-Ok.ensures.feeds c.move_on-2.ensures.refused)
