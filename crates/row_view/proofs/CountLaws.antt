-- Lengths counted one after another.
use Rattle.std.proofs.Common.{◌≡◌, ℕ, suc, ℤ, ◌+◌, ◌-◌, ◌^◌, List, ◌∷◌, arith}
use Rattle.std.specs.Prelude.{min}
use Rattle.row_view.specs.declared.count.Count.{Count}
use Rattle.row_view.specs.declared.marks.Mark.{Mark}
use Rattle.row_view.specs.RowFields.{row_lengths}
use Rattle.row_view.specs.Row.{size_of}
use Rattle.row_view.specs.Private.Marks.{AreMarks}
use Rattle.row_view.specs.Private.Counted.{IsCounted}
use Rattle.row_view.proofs.PlaceLaws.{drop_next}

-- one length more is counted
pub counted_next : (message : List ℕ) (n : ℤ) (left : List ℤ) (old new : Count) (before after : List Mark) → IsCounted message (n ∷ left) old before
    → new.columns ≡ old.columns + 1 → min new.bytes (2 ^ 64 - 1) ≡ min (old.bytes + size_of n) (2 ^ 64 - 1) → AreMarks message (old.columns + 1) after → IsCounted message left new after
counted_next message n left old new before after counted columns bytes marks =
    let next = drop_next old.columns (row_lengths message) left n counted.left_are in
    let one : new.columns ≡ suc old.columns = omega (arith, columns) in
    record {
      left_are = rw one next.0;
      all = omega (arith, counted.all, columns);
      bytes_are = rw one (omega (arith, counted.bytes_are, bytes, next.1));
      marks_are = rw columns marks;
    }
