use Rattle.std.proofs.Common.{sym}
use Rattle.row_view.proofs.WrittenLaws.{row_written}
use Rattle.row_view.specs.WrittenRow.{written_values}
use Rattle.row_view.proofs.written_row.append_row.Goals as goal

pub returns-clause-written : goal.returns-clause-written
returns-clause-written c =
    let columns = c.args.row.now in
    row_written c.args.out.now.items c.put_head.new.out.items c.put_lengths.new.out.items c.put_text_head.new.out.items c.put_values.new.out.items columns
    (c.in_ok-put_head.ensures.written columns (record { many = sym c.len.ensures.count; lengths = sym c.requires.lengths; values = sym c.requires.values })) c.in_ok-put_lengths.ensures.written
    (c.in_ok-put_text_head.ensures.written (written_values columns) (sym c.requires.values)) c.in_ok-put_values.ensures.written
