use Rattle.std.proofs.Common.{map}
use Rattle.std.specs.Arc.{arc_value}
use Rattle.feed_check.proofs.ListLaws.{item_at}
use Rattle.feed_check.proofs.last_rows.last_rows.Goals as goal

pub loop-group-preserved : goal.loop-group-preserved
loop-group-preserved g c =
    c.in_ok-advance.ensures.kept (map arc_value c.args.groups.now) c.loop-group.group-index
    (item_at arc_value c.args.groups.now c.loop-group.group-index c.group-item.result c.deref.result.now c.loop-group-test.true c.group-item.is c.deref.ensures) c.loop-group.invariant
