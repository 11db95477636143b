use Rattle.log_groups.specs.Keeping.{mark_value}
use Rattle.log_groups.proofs.MarkLaws.{marks_more, marks_end}
use Rattle.log_groups.proofs.open.mark_of.Goals as goal

pub loop-mark-preserved : goal.loop-mark-preserved
loop-mark-preserved c = marks_more mark_value c.args.name.now c.args.marks.now c.loop-mark.mark-index c.mark-item.result c.loop-mark.found _ _ c.loop-mark-test.true c.mark-item.is c.or-found.ensures c.loop-mark.invariant

pub returns : goal.returns
returns c = marks_end mark_value c.args.name.now c.args.marks.now c.loop-mark.mark-index c.loop-mark.found _ c.loop-mark-test.false c.loop-mark.invariant
