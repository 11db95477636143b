use Rattle.std.proofs.Common.{sym, ◌∙◌}
use Rattle.row_view.proofs.ColumnLaws.{length-columns_over}
use Rattle.row_view.proofs.KeptLaws.{good_few}
use Rattle.row_view.proofs.row.RowView.len.Goals as goal

pub returns-clause-count : goal.returns-clause-count
returns-clause-count c = rw (← c.self.view_is) (c.self.invariant.counted ∙ sym (length-columns_over _ _))

pub returns-clause-few : goal.returns-clause-few
returns-clause-few c = rw (← c.self.view_is) (rw (length-columns_over _ _) (good_few _ c.self.invariant.good))
