use Rattle.std.proofs.Common.{◌++◌, arith}
use Rattle.row_view.specs.WrittenRow.{written_lengths, written_row, written_values}
use Rattle.json_pieces.proofs.TellLaws.{same_text, then_tells}
use Rattle.compaction.specs.Private.Sized.{lengths_head, text_head}
use Rattle.compaction.proofs.SizedLaws.{row_is}
use Rattle.compaction.proofs.sized_row.put_row.Goals as goal

pub returns : goal.returns
returns g c =
    let row = c.args.row.now in
    let head = lengths_head c.args.lengths c.args.values in
    let behind = text_head 18 c.args.values in
    same_text _ _ (head ++ (written_lengths row ++ (behind ++ written_values row))) (written_row row) (row_is row c.args.lengths c.args.values c.requires)
    (then_tells _ _ _ head (written_lengths row ++ (behind ++ written_values row)) c.put_lengths_head.ensures
    (then_tells _ _ _ (written_lengths row) (behind ++ written_values row) c.put_lengths.ensures (then_tells _ _ _ behind (written_values row) c.put_text_head.ensures c.put_values.ensures)))

pub put_lengths-requires : goal.put_lengths-requires
put_lengths-requires g c = omega (arith, c.requires.values_are, c.requires.values_short)
