use Rattle.std.proofs.Common.{◌≡◌, ◌++◌, drop}
use Rattle.proto_wire.specs.Writing.{Begins}
use Rattle.row_view.specs.Picked.{picked, ArePlaces}
use Rattle.row_view.specs.WrittenRow.{written_lengths}
use Rattle.row_view.proofs.written_picked.put_picked_lengths.Given as goal

-- what is written, and what the columns that are still to come are written as, is the whole row's
abbrev pub invariant-loop-place : goal.invariant-loop-place
invariant-loop-place l =
    (l.out.items ++ written_lengths (picked (drop l.place-index l.places) l.row) ≡ l.fn.out.items ++ written_lengths (picked l.fn.places l.fn.row))
    × Begins l.fn.out.items l.out.items
    × ArePlaces (drop l.place-index l.places) l.row
