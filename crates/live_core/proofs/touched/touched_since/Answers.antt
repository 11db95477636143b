use Rattle.std.proofs.Common.{map, arith}
use Rattle.std.specs.Arc.{arc_value}
use Rattle.live_core.proofs.TouchedLaws.{below-none, below-turn, below-all, count-within}
use Rattle.live_core.proofs.touched.touched_since.Goals as goal

pub loop-s-init : goal.loop-s-init
loop-s-init c = below-none c.args.told.now c.args.board.now c.new-keys.result.keys c.new-keys.ensures.empty

pub applied_since-groups-requires-clause-applied : goal.applied_since-groups-requires-clause-applied
applied_since-groups-requires-clause-applied c = count-within c.args.told.now c.args.board.now c.requires c.loop-s.s c.applied.result c.applied.ensures

pub loop-s-preserved : goal.loop-s-preserved
loop-s-preserved c =
    below-turn c.args.told.now c.args.board.now c.loop-s.s c.applied.result c.loop-s.keys.keys c.put_keys_of_groups.new.keys.keys (map arc_value c.applied_since-groups.result.now) (omega (arith, c.loop-s-test.true, c.len-s-end.ensures)) c.applied.ensures
    c.applied_since-groups.ensures c.in_ok-put_keys_of_groups.ensures c.loop-s.invariant

pub returns : goal.returns
returns c = below-all c.args.told.now c.args.board.now c.loop-s.keys.keys c.loop-s.s (omega (arith, c.loop-s-test.false, c.loop-s.auto.s-end, c.len-s-end.ensures)) c.loop-s.invariant
