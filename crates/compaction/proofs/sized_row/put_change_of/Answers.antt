use Rattle.std.proofs.Common.{◌++◌, ◌∙◌, sym}
use Rattle.row_view.specs.WrittenRow.{written_row}
use Rattle.json_pieces.proofs.TellLaws.{same_text, then_tells}
use Rattle.compaction.specs.Private.Sized.{change_field, held_head, held_size}
use Rattle.compaction.proofs.SizedLaws.{change_is, row_long}
use Rattle.compaction.proofs.sized_row.put_change_of.Goals as goal

pub returns : goal.returns
returns g c =
    let row = c.args.row.now in
    let size = c.row_size-size.result in
    same_text _ _ (held_head 18 (held_size size) ++ (held_head 18 size ++ written_row row)) (change_field row)
    (change_is row size (c.row_size-size.ensures.size ∙ sym (row_long row c.args.lengths c.args.values c.requires)))
    (then_tells _ _ _ (held_head 18 (held_size size)) (held_head 18 size ++ written_row row) (rw c.held_size.ensures.size at c.put_held_head.ensures)
    (then_tells _ _ _ (held_head 18 size) (written_row row) c.put_held_head-2.ensures c.put_row.ensures))
