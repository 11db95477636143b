use Rattle.std.proofs.Common.{◌∙◌, ap}
use Rattle.std.specs.Arc.{arc_value}
use Rattle.source_feed.specs.Touches.{PreparedValue}
use Rattle.feed_check.specs.Private.Replayed.{row_in}
use Rattle.feed_check.proofs.SharedLaws.{among-more}
use Rattle.feed_check.proofs.shared.least_of_groups.Goals as goal

pub loop-group-preserved : goal.loop-group-preserved
loop-group-preserved c =
    among-more arc_value (row_in c.args.others.now) c.args.i c.loop-group.best c.least_among-best.result c.args.groups.now c.loop-group.group-index c.group-item.result c.touches.result.now
    c.least_among-best.ensures (c.touches.ensures.touches ∙ ap (λ (group : PreparedValue). group.touches) c.deref.ensures) c.loop-group-test.true c.group-item.is
    ∙ c.loop-group.invariant
