use Rattle.std.proofs.Common.{◌≡◌, ◌+◌, length}
use Rattle.row_view.specs.WrittenRow.{written_lengths, written_values}
use Rattle.row_view.proofs.written_row.size_of_parts.Given as goal

-- what is counted, and what the columns that are still to come have, is the whole row's
abbrev pub invariant-loop-column : goal.invariant-loop-column
invariant-loop-column l =
    (l.size.lengths + length (written_lengths l.column-iterator) ≡ length (written_lengths l.fn.row))
    × (l.size.values + length (written_values l.column-iterator) ≡ length (written_values l.fn.row))
