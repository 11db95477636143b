use Rattle.std.proofs.Common.{◌<◌, arith, length, map}
use Rattle.std.specs.Arc.{arc_value}
use Rattle.apply_core.proofs.StreamLaws.{item_at}
use Rattle.apply_core.proofs.bringing.bring.Goals as goal

pub loop-imaged-preserved : goal.loop-imaged-preserved
loop-imaged-preserved c =
    let inside : c.loop-imaged.imaged < length c.args.list.now = omega arith in
    record {
      kept = c.in_ok-advance.ensures.kept (map arc_value c.args.list.now) c.loop-imaged.imaged
          (item_at arc_value c.args.list.now c.loop-imaged.imaged c.index-list-imaged.result c.deref.result.now inside c.index-list-imaged.is c.deref.ensures) c.loop-imaged.invariant.kept;
      no_later = omega arith;
    }
