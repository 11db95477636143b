use Rattle.std.specs.Arc.{arc_value}
use Rattle.vrepl_main.specs.OpenedFeeds.{opened_value}
use Rattle.vrepl_main.proofs.HandedOnLaws.{follows_only_right}
use Rattle.vrepl_main.proofs.FollowLaws.{only_followed_by}
use Rattle.vrepl_main.specs.OnlyFollowed.{only_asked}
use Rattle.vrepl_main.specs.Followed.{saved_asked}
use Rattle.vrepl_main.proofs.following_only.follow_only.Goals as goal

pub returns-clause-followed : goal.returns-clause-followed
returns-clause-followed g c =
    only_followed_by (only_asked c.args.only.now c.args.inputs.now) (opened_value c.in_ok-opened.opened) c.args.only.now (saved_asked c.args.inputs.now)
    (record { plan = arc_value c.in_ok-plan.plan; checkpoint = c.in_ok-checkpoint.checkpoint.items; board = c.in_ok-fed.fed.board })
    c.in_ok-opened.ensures.opened (rw c.deref.ensures.value at c.in_ok-plan.ensures) c.in_ok-fed.ensures.moved
    (rw c.board.ensures.board at c.in_ok-checkpoint.ensures)

pub returns-clause-right : goal.returns-clause-right
returns-clause-right g c =
    follows_only_right c.args.inputs.now (record { plan = arc_value c.in_ok-plan.plan; checkpoint = c.in_ok-checkpoint.checkpoint.items; board = c.in_ok-fed.fed.board }) c.args.only.now
    (only_followed_by (only_asked c.args.only.now c.args.inputs.now) (opened_value c.in_ok-opened.opened) c.args.only.now (saved_asked c.args.inputs.now)
    (record { plan = arc_value c.in_ok-plan.plan; checkpoint = c.in_ok-checkpoint.checkpoint.items; board = c.in_ok-fed.fed.board })
    c.in_ok-opened.ensures.opened (rw c.deref.ensures.value at c.in_ok-plan.ensures) c.in_ok-fed.ensures.moved
    (rw c.board.ensures.board at c.in_ok-checkpoint.ensures))
