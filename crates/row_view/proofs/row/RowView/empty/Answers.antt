use Rattle.row_view.proofs.FilledLaws.{empty_kept, no_columns}
use Rattle.row_view.proofs.row.RowView.empty.Goals as goal

pub invariant_of-result : goal.invariant_of-result
invariant_of-result c = empty_kept c.no_marks.result

pub returns : goal.returns
returns c = no_columns
