use Rattle.std.proofs.Common.{arith}
use Rattle.row_view.specs.WrittenRow.{written_values}
use Rattle.row_view.proofs.WrittenLaws.{row_length, if_ok}
use Rattle.row_view.proofs.written_row.RowSize.row.Goals as goal

pub returns : goal.returns
returns c = if_ok c.size_of_both.result (λ size is columns sizes.
    omega (arith, is, c.in_ok-lengths.ensures columns sizes, c.in_ok-values.ensures (written_values columns) sizes.values, row_length columns)) c.size_of_both.ensures
