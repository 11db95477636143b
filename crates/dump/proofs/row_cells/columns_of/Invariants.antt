use Rattle.std.proofs.Common.{◌≡◌, take}
use Rattle.std.specs.Prelude.{map}
use Rattle.row_view.specs.ColumnValue.{column_value}
use Rattle.dump.specs.Private.Spans.{columns_at}
use Rattle.dump.proofs.row_cells.columns_of.Given as goal

abbrev pub invariant-loop-span : goal.invariant-loop-span
invariant-loop-span l = map column_value l.columns.items ≡ columns_at l.values (take l.span-index l.spans)
