use Rattle.std.proofs.Common.{sym}
use Rattle.row_view.specs.Picked.{picked}
use Rattle.row_view.proofs.PickLaws.{length-picked}
use Rattle.row_view.proofs.WrittenLaws.{row_written}
use Rattle.row_view.specs.WrittenRow.{written_values}
use Rattle.row_view.proofs.written_picked.append_picked.Goals as goal

pub returns : goal.returns
returns c =
    let columns = picked c.args.places.now c.args.row.now in
    row_written c.args.out.now.items c.put_head.new.out.items c.put_picked_lengths.new.out.items c.put_text_head.new.out.items c.put_picked_values.new.out.items columns
    (c.in_ok-put_head.ensures.written columns (record { many = length-picked c.args.places.now c.args.row.now; lengths = sym c.in_ok-size.ensures.lengths; values = sym c.in_ok-size.ensures.values })) c.in_ok-put_picked_lengths.ensures.written
    (c.in_ok-put_text_head.ensures.written (written_values columns) (sym c.in_ok-size.ensures.values)) c.in_ok-put_picked_values.ensures.written
