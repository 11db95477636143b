use Rattle.std.proofs.Common.{map, sym}
use Rattle.std.proofs.lemmas.List.{length-map}
use Rattle.row_view.specs.ColumnValue.{column_value}
use Rattle.row_view.proofs.WrittenLaws.{row_written}
use Rattle.row_view.specs.WrittenRow.{written_values}
use Rattle.row_view.proofs.written_columns.append_columns.Goals as goal

pub returns-clause-written : goal.returns-clause-written
returns-clause-written c =
    let columns = map column_value c.args.columns.now in
    row_written c.args.out.now.items c.put_head.new.out.items c.put_lengths_of.new.out.items c.put_text_head.new.out.items c.put_values_of.new.out.items columns
    (c.in_ok-put_head.ensures.written columns (record { many = length-map c.args.columns.now column_value; lengths = sym c.in_ok-size.ensures.lengths; values = sym c.in_ok-size.ensures.values })) c.in_ok-put_lengths_of.ensures.written
    (c.in_ok-put_text_head.ensures.written (written_values columns) (sym c.in_ok-size.ensures.values)) c.in_ok-put_values_of.ensures.written
