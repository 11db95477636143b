use Rattle.std.proofs.Common.{◌≡◌, ◌++◌, map, drop}
use Rattle.proto_wire.specs.Writing.{Begins}
use Rattle.row_view.specs.ColumnValue.{column_value}
use Rattle.row_view.specs.WrittenRow.{written_values}
use Rattle.row_view.proofs.written_columns.put_values_of.Given as goal

-- what is written, and what the columns that are still to come are written as, is the whole row's
abbrev pub invariant-loop-column : goal.invariant-loop-column
invariant-loop-column l =
    (l.out.items ++ written_values (map column_value (drop l.column-index l.columns)) ≡ l.fn.out.items ++ written_values (map column_value l.fn.columns))
    × Begins l.fn.out.items l.out.items
