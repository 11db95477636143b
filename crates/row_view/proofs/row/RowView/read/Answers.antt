use Rattle.row_view.proofs.RowLaws.{row, row_too_long, row_broken, row_too_many, row_past_values}
use Rattle.row_view.proofs.row.RowView.read.Goals as goal

pub returns-clause-row : goal.returns-clause-row
returns-clause-row c = rw c.row_of.ensures (row c.args.bytes.now)

pub returns-clause-too_long : goal.returns-clause-too_long
returns-clause-too_long c = rw c.row_of.ensures (row_too_long c.args.bytes.now)

pub returns-clause-broken : goal.returns-clause-broken
returns-clause-broken c = rw c.row_of.ensures (row_broken c.args.bytes.now)

pub returns-clause-too_many : goal.returns-clause-too_many
returns-clause-too_many c = rw c.row_of.ensures (row_too_many c.args.bytes.now)

pub returns-clause-past_values : goal.returns-clause-past_values
returns-clause-past_values c = rw c.row_of.ensures (row_past_values c.args.bytes.now)
