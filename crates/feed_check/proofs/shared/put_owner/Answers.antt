use Rattle.std.proofs.Common.{map, take}
use Rattle.std.specs.Arc.{arc_value}
use Rattle.source_feed.specs.History.{touches_in}
use Rattle.feed_check.specs.Private.Replayed.{row_in}
use Rattle.feed_check.proofs.SharedLaws.{owners-more, touches-more}
use Rattle.feed_check.proofs.shared.put_owner.Goals as goal

pub loop-group-preserved : goal.loop-group-preserved
loop-group-preserved c =
    let groups = c.args.groups.now in
    let i = c.loop-group.group-index in
    owners-more c.args.i (touches_in (map arc_value (take i groups))) (arc_value c.group-item.result).touches _ c.in_ok-touches.touches.items (row_in c.args.owners.now) (row_in c.loop-group.owners) (row_in c.touch.new.self)
    (rw (c.touches.ensures.touches, c.deref.ensures) at c.in_ok-touches.ensures) (touches-more arc_value groups i c.group-item.result c.loop-group-test.true c.group-item.is) c.in_ok-touch.ensures c.loop-group.invariant
