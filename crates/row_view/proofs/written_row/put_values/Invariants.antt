use Rattle.std.proofs.Common.{◌≡◌, ◌++◌}
use Rattle.proto_wire.specs.Writing.{Begins}
use Rattle.row_view.specs.WrittenRow.{written_values}
use Rattle.row_view.proofs.written_row.put_values.Given as goal

-- what is written, and what the columns that are still to come are written as, is the whole row's
abbrev pub invariant-loop-column : goal.invariant-loop-column
invariant-loop-column l =
    (l.out.items ++ written_values l.column-iterator ≡ l.fn.out.items ++ written_values l.fn.row)
    × Begins l.fn.out.items l.out.items
