use Rattle.std.proofs.Common.{◌≡◌, ◌+◌, length, drop}
use Rattle.row_view.specs.Picked.{picked, ArePlaces}
use Rattle.row_view.specs.WrittenRow.{written_lengths, written_values}
use Rattle.row_view.proofs.written_picked.size_of_picked.Given as goal

-- what is counted, and what the columns that are still to come have, is the whole row's
abbrev pub invariant-loop-place : goal.invariant-loop-place
invariant-loop-place l =
    (l.size.lengths + length (written_lengths (picked (drop l.place-index l.places) l.row)) ≡ length (written_lengths (picked l.fn.places l.fn.row)))
    × (l.size.values + length (written_values (picked (drop l.place-index l.places) l.row)) ≡ length (written_values (picked l.fn.places l.fn.row)))
    × ArePlaces (drop l.place-index l.places) l.row
