use Rattle.std.proofs.Common.{◌≡◌, Some, map, take}
use Rattle.row_view.specs.ColumnValue.{column_value}
use Rattle.live_requests.proofs.named.columns_of.Given as goal

-- the columns of the values so far
abbrev pub invariant-loop-value : goal.invariant-loop-value
invariant-loop-value l = map column_value l.columns.items ≡ map (λ value. Some value.items) (take l.value-index l.values)
