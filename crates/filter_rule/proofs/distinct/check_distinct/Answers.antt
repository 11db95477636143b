use Rattle.filter_rule.proofs.DistinctLaws.{name_turn, name_repeats, refuses_twice}
use Rattle.filter_rule.specs.Document.{has_twice}
use Rattle.std.proofs.Common.{map}
use Rattle.filter_rule.proofs.distinct.check_distinct.Goals as goal

pub returns-then-not-is_new : goal.returns-then-not-is_new
returns-then-not-is_new g c =
    refuses_twice (map g.T.HasName.name c.args.items.now)
    (name_repeats g.T.HasName.name c.args.items.now c.loop-item.item-index c.item-item.result c.loop-item.seen.keys c.name.result c.in_ok-is_new.is_new
    c.loop-item-test.true c.item-item.is c.name.ensures c.in_ok-is_new.ensures.added c.if-not-is_new.true c.loop-item.invariant)

pub loop-item-preserved : goal.loop-item-preserved
loop-item-preserved g c =
    name_turn g.T.HasName.name c.args.items.now c.loop-item.item-index c.item-item.result c.loop-item.seen.keys c.insert.new.self.keys c.name.result c.in_ok-is_new.is_new (has_twice (map g.T.HasName.name c.args.items.now))
    c.loop-item-test.true c.item-item.is c.name.ensures c.in_ok-is_new.ensures.added c.if-not-is_new.false c.in_ok-is_new.ensures.updates.0 c.loop-item.invariant
