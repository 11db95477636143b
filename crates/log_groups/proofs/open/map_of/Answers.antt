use Rattle.std.proofs.Common.{arith}
use Rattle.log_tables.specs.TableMap.{map_value}
use Rattle.log_groups.proofs.MarkLaws.{map_found, map_before}
use Rattle.log_groups.proofs.open.map_of.Goals as goal

pub returns-then-table-number : goal.returns-then-table-number
returns-then-table-number c = map_found map_value c.args.number c.args.maps.now c.loop-left.left _ _ (omega (arith, c.loop-left-test.true)) c.loop-left.invariant.0 c.if-table-number.true c.loop-left.invariant.1

pub loop-left-preserved : goal.loop-left-preserved
loop-left-preserved c =
    (omega (arith, c.loop-left.invariant.0), map_before map_value c.args.number c.args.maps.now c.loop-left.left _ _ (omega (arith, c.loop-left-test.true)) c.loop-left.invariant.0 c.if-table-number.false c.loop-left.invariant.1)
