use Rattle.compaction_laws.proofs.ColumnLaws.{left_have_columns}
use Rattle.compaction_laws.proofs.laws.left_rows_have_columns.Goals as goal

pub returns : goal.returns
returns c = left_have_columns (λ a b. (c.keys_tie_where_they_are_equal.ensures a b).0) c.changes_have_columns.ensures
