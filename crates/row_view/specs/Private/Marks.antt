-- Where a column's length stands in a message, and what is known from there on.
use Rattle.std.specs.Prelude.{◌≡◌, ℕ, ℤ, ◌*◌, ◌^◌, ◌<◌, ◌≤◌, List, ◌++◌, length, take, drop, Some, slice_get}
use Rattle.proto_wire.specs.Sint64s.{sint64s_left}
use Rattle.row_view.specs.declared.found.TheConstants.{LENGTHS}
use Rattle.row_view.specs.declared.marks.Mark.{Mark}
use Rattle.row_view.specs.RowFields.{row_lengths}
use Rattle.row_view.specs.Row.{size_of_all}

-- the lengths that are left of a packed part, and those of the fields behind it
abbrev pub lengths_left : List ℕ → List ℕ → List ℤ
lengths_left packed fields = sint64s_left LENGTHS packed fields

-- the lengths from a place on; the packed part in which it lies ends at `end`
abbrev pub lengths_from : List ℕ → ℕ → ℕ → List ℤ
lengths_from message at end = lengths_left (drop at (take end message)) (drop end message)

-- the message ends in what is left of a packed part and the fields behind it
pub record EndsIn (message packed fields : List ℕ) : Type 0 where
  pub front : List ℕ
  pub is : message ≡ front ++ (packed ++ fields)

-- the same, where they stand at these places
pub record IsPlace (message packed fields : List ℕ) (at end : ℕ) : Type 0 where
  pub front : List ℕ
  pub is : message ≡ front ++ (packed ++ fields)
  pub at_is : at ≡ length front
  pub end_is : end ≡ length (front ++ packed)

-- the mark of a column: its length stands there, and its value behind those of the columns before it
pub record IsMark (message : List ℕ) (column : ℕ) (mark : Mark) : Type 0 where
  pub begins : mark.at ≤ mark.end
  pub within : mark.end ≤ length message
  pub lengths_are : lengths_from message mark.at mark.end ≡ drop column (row_lengths message)
  pub offset_is : size_of_all (take column (row_lengths message)) < 2 ^ 32 → mark.offset ≡ size_of_all (take column (row_lengths message))

-- each sixteenth of the first columns has its mark
pub record AreMarks (message : List ℕ) (columns : ℕ) (marks : List Mark) : Type 0 where
  pub room : length marks ≡ 16
  pub each : (j : ℕ) (mark : Mark) → 16 * j < columns → slice_get marks j ≡ Some mark → IsMark message (16 * j) mark
