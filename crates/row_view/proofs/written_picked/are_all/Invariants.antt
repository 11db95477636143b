use Rattle.std.proofs.Common.{◌≡◌, ℕ, ◌<◌, ◌≤◌, length, Some}
use Rattle.std.specs.Prelude.{slice_get}
use Rattle.row_view.proofs.written_picked.are_all.Given as goal

-- so far each place is its own number
abbrev pub invariant-loop-place : goal.invariant-loop-place
invariant-loop-place l = record {
  next : l.next ≡ l.place-index;
  within : l.place-index ≤ length l.places;
  each : (j : ℕ) → j < l.place-index → slice_get l.places j ≡ Some j;
}
