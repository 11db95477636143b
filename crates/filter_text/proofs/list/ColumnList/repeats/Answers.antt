use Rattle.filter_text.specs.ColumnList.{has_twice}
use Rattle.filter_text.proofs.SeenLaws.{seen_first, seen_turn}
use Rattle.filter_text.proofs.list.ColumnList.repeats.Goals as goal

pub loop-column-init : goal.loop-column-init
loop-column-init c = seen_first c.new-seen.result.keys c.args.self.now c.again-left.result c.new-seen.ensures.empty c.again-left.ensures

pub loop-column-preserved : goal.loop-column-preserved
loop-column-preserved c =
    seen_turn c.loop-column.seen.keys c.insert.new.self.keys c.in-Some.column c.in_ok-is_new.is_new (has_twice c.args.self.now) c.loop-column.left c.next_column.new.self
    c.in-Some.ensures.some c.in_ok-is_new.ensures.added c.if-not-is_new.false c.in_ok-is_new.ensures.updates.0 c.loop-column.invariant
