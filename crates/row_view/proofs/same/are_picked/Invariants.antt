use Rattle.std.proofs.Common.{◌≡◌, drop}
use Rattle.row_view.specs.Picked.{picked}
use Rattle.row_view.proofs.same.are_picked.Given as goal

-- the columns are picked exactly where those that are still to come are, by the places still to come
abbrev pub invariant-loop-place : goal.invariant-loop-place
invariant-loop-place l = (l.columns ≡ picked (drop l.place-index l.places) l.row → l.fn.columns ≡ picked l.places l.row) × (l.fn.columns ≡ picked l.places l.row → l.columns ≡ picked (drop l.place-index l.places) l.row)
