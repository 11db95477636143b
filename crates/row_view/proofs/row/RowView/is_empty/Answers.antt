use Rattle.row_view.proofs.ColumnLaws.{columns_over-empty}
use Rattle.row_view.proofs.row.RowView.is_empty.Goals as goal

pub returns : goal.returns
returns c = rw (← c.self.view_is) (columns_over-empty _ _ _ c.self.invariant.counted)
