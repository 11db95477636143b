use Rattle.std.proofs.Common.{◌≡◌, ◌+◌, map, length, drop}
use Rattle.row_view.specs.ColumnValue.{column_value}
use Rattle.row_view.specs.WrittenRow.{written_lengths, written_values}
use Rattle.row_view.proofs.written_columns.size_of_columns.Given as goal

-- what is counted, and what the columns that are still to come have, is the whole row's
abbrev pub invariant-loop-column : goal.invariant-loop-column
invariant-loop-column l =
    (l.size.lengths + length (written_lengths (map column_value (drop l.column-index l.columns))) ≡ length (written_lengths (map column_value l.fn.columns)))
    × (l.size.values + length (written_values (map column_value (drop l.column-index l.columns))) ≡ length (written_values (map column_value l.fn.columns)))
