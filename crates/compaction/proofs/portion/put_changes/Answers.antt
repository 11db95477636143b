use Rattle.std.proofs.Common.{◌+◌, ap, drop}
use Rattle.std.proofs.lemmas.List.{drop_all}
use Rattle.json_pieces.proofs.TellLaws.{starts, moves, ends}
use Rattle.compaction.specs.Private.Sized.{change_field, change_fields}
use Rattle.compaction.proofs.SizedLaws.{first-left}
use Rattle.compaction.proofs.portion.put_changes.Goals as goal

pub loop-row-init : goal.loop-row-init
loop-row-init g c = starts _ _

pub loop-row-preserved : goal.loop-row-preserved
loop-row-preserved g c =
    moves _ _ _ _ _ (change_field c.row-item.result) (change_fields (drop (c.loop-row.row-index + 1) c.args.rows.now))
    (first-left change_field c.args.rows.now c.loop-row.row-index c.row-item.result c.loop-row-test.true c.row-item.is) c.loop-row.invariant c.put_change.ensures

pub returns : goal.returns
returns g c = ends _ _ _ _ (ap change_fields (drop_all c.loop-row.row-index c.args.rows.now c.loop-row-test.false)) c.loop-row.invariant
