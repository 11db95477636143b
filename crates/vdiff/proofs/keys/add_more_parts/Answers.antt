use Rattle.std.proofs.Common.{get_or}
use Rattle.std.specs.Prelude.{codes, pos}
use Rattle.std.proofs.lemmas.Result.{err_from_is_err_and}
use Rattle.dump.proofs.KeyTextLaws.{first_part}
use Rattle.pk_copy.specs.PartValue.{part_value}
use Rattle.pk_copy.specs.declared.part.KeyPart.TheVariants.{Number}
use Rattle.printing.proofs.PrintLaws.{adding_breaks, added_breaks, added_more, adding_moves, adding_stops}
use Rattle.dump.specs.KeyText.{part_cell}
use Rattle.vdiff.proofs.keys.add_more_parts.Goals as goal

pub returns-in_err-put_str : goal.returns-in_err-put_str
returns-in_err-put_str g c =
    let parts = first_part c.args.parts.now c.loop-part.part-index (Number (pos 0)) c.loop-part-test.true in
    let first = part_cell (part_value (get_or c.args.parts.now c.loop-part.part-index (Number (pos 0)))) in
    let p = err_from_is_err_and c.from_residual.result c.from_residual.ensures.1 in
    rw p.1 (adding_stops _ _ _ _ _ _ _ _ _ parts c.loop-part.invariant (adding_breaks _ _ c.loop-part.text (codes ",") first c.in_err-put_str.ensures))

pub returns-in_err-add_part : goal.returns-in_err-add_part
returns-in_err-add_part g c =
    let parts = first_part c.args.parts.now c.loop-part.part-index _ c.loop-part-test.true in
    let p = err_from_is_err_and c.from_residual-in_err-add_part.result c.from_residual-in_err-add_part.ensures.1 in
    rw p.1 (adding_stops _ _ _ _ _ _ _ _ _ parts c.loop-part.invariant (added_breaks _ _ _ _ _ (codes ",") _ c.in_ok-put_str.ensures c.in_err-add_part.ensures))

pub loop-part-preserved : goal.loop-part-preserved
loop-part-preserved g c =
    let parts = first_part c.args.parts.now c.loop-part.part-index _ c.loop-part-test.true in
    adding_moves _ _ _ _ _ _ _ _ _ _ parts c.loop-part.invariant (added_more _ _ _ _ _ _ (codes ",") _ c.in_ok-put_str.ensures c.in_ok-add_part.ensures)
