use Rattle.std.proofs.lemmas.Result.{err_from_is_err_and}
use Rattle.item_readers.proofs.ReadingLaws.{empty_list, not_empty}
use Rattle.log_tables.proofs.PartLaws.{part_reader, part_more, part_end, part_fault}
use Rattle.log_tables.proofs.extra.part_of.Goals as goal

pub returns-in_err-part : goal.returns-in_err-part
returns-in_err-part c =
    let p = err_from_is_err_and c.from_residual.result c.from_residual.ensures.1 in
    rw (p.1, p.2) (part_fault c.args.kind c.loop-left.found.now c.loop-left.left.now c.in_err-part.field-0.0 _ (not_empty c.loop-left.left.now c.loop-left-test.ensures) c.in_err-part.ensures c.loop-left.invariant)

pub loop-left-smaller : goal.loop-left-smaller
loop-left-smaller c = part_reader.shorter c.loop-left.left.now _ c.in_ok-part.ensures

pub loop-left-preserved : goal.loop-left-preserved
loop-left-preserved c = part_more c.args.kind c.loop-left.found.now c.or-found.result.now c.loop-left.left.now _ _ c.in_ok-part.ensures c.or-found.ensures c.loop-left.invariant

pub returns : goal.returns
returns c = part_end c.args.kind c.loop-left.found.now c.loop-left.left.now _ (empty_list c.loop-left.left.now c.loop-left-test.ensures) c.loop-left.invariant
