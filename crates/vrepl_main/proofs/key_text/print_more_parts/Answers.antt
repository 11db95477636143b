use Rattle.std.proofs.Common.{get_or}
use Rattle.std.specs.Prelude.{codes, pos}
use Rattle.std.proofs.lemmas.Result.{err_from_is_err_and}
use Rattle.dump.proofs.KeyTextLaws.{first_part}
use Rattle.pk_copy.specs.PartValue.{part_value}
use Rattle.pk_copy.specs.declared.part.KeyPart.TheVariants.{Number}
use Rattle.dump.specs.KeyText.{part_cell}
use Rattle.vrepl_main.proofs.AddLaws.{moves, stops, first_stops, then_stops, then_put}
use Rattle.vrepl_main.proofs.key_text.print_more_parts.Goals as goal

pub returns-in_err-put_all : goal.returns-in_err-put_all
returns-in_err-put_all g c =
    let parts = first_part c.args.parts.now c.loop-part.part-index (Number (pos 0)) c.loop-part-test.true in
    let first = part_cell (part_value (get_or c.args.parts.now c.loop-part.part-index (Number (pos 0)))) in
    let p = err_from_is_err_and c.from_residual.result c.from_residual.ensures.1 in
    rw p.1 (stops _ _ _ _ _ _ _ parts c.loop-part.invariant (first_stops _ _ (codes ",") first c.in_err-put_all.ensures))

pub returns-in_err-print_part : goal.returns-in_err-print_part
returns-in_err-print_part g c =
    let parts = first_part c.args.parts.now c.loop-part.part-index _ c.loop-part-test.true in
    let p = err_from_is_err_and c.from_residual-in_err-print_part.result c.from_residual-in_err-print_part.ensures.1 in
    rw p.1 (stops _ _ _ _ _ _ _ parts c.loop-part.invariant (then_stops _ _ _ (codes ",") _ c.in_ok-put_all.ensures c.in_err-print_part.ensures))

pub loop-part-preserved : goal.loop-part-preserved
loop-part-preserved g c =
    let parts = first_part c.args.parts.now c.loop-part.part-index _ c.loop-part-test.true in
    moves _ _ _ _ _ _ _ parts c.loop-part.invariant (then_put _ _ _ (codes ",") _ c.in_ok-put_all.ensures c.in_ok-print_part.ensures)
