use Rattle.event_laws.proofs.ColumnLaws.{have_columns}
use Rattle.event_laws.proofs.laws.changes_have_columns.Goals as goal

pub returns : goal.returns
returns c = have_columns
