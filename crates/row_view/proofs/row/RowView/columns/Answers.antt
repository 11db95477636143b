use Rattle.std.proofs.Common.{ap, ◌∙◌}
use Rattle.row_view.specs.RowFields.{row_lengths}
use Rattle.row_view.specs.Row.{columns_over}
use Rattle.row_view.proofs.KeptLaws.{good_within}
use Rattle.row_view.proofs.row.RowView.columns.Goals as goal

pub new-requires : goal.new-requires
new-requires c = rw c.self.invariant.values_are (good_within c.self.inside.message.now c.self.invariant.good)

pub returns : goal.returns
returns c = c.new.ensures ∙ ap (λ values. columns_over values (row_lengths c.self.inside.message.now)) c.self.invariant.values_are ∙ c.self.view_is
