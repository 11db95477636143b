use Rattle.std.proofs.Common.{◌≡◌, ◌+◌, length}
use Rattle.row_view.specs.WrittenRow.{written_lengths, written_values}
use Rattle.compaction.proofs.sizes.sizes_of.Given as goal

-- what is counted, and what the columns that are still to come have, is the whole row's
abbrev pub invariant-loop-column : goal.invariant-loop-column
invariant-loop-column l =
    (l.sizes.columns + length l.column-iterator ≡ length l.row)
    × (l.sizes.lengths + length (written_lengths l.column-iterator) ≡ length (written_lengths l.row))
    × (l.sizes.values + length (written_values l.column-iterator) ≡ length (written_values l.row))
