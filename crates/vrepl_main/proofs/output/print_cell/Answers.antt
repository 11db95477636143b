use Rattle.row_view.specs.ColumnValue.{column_value}
use Rattle.dump.specs.Cells.{cell}
use Rattle.vrepl_main.proofs.AddLaws.{added}
use Rattle.vrepl_main.proofs.output.print_cell.Goals as goal

pub returns : goal.returns
returns g c = added c.add_cell.result _ c.args.text.now _ c.add_cell.new.text (cell (column_value c.args.column.now)) c.add_cell.ensures
