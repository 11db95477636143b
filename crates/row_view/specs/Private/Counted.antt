-- Counting lengths as they come.
use Rattle.std.specs.Prelude.{◌≡◌, ℕ, ℤ, ◌+◌, ◌-◌, ◌^◌, ◌≤◌, ◌++◌, min, None, List, [], length, take, drop}
use Rattle.std.specs.List.{filter_map}
use Rattle.proto_wire.specs.Field.{fields_of}
use Rattle.proto_wire.specs.Parts.{part_in, last_of}
use Rattle.row_view.specs.declared.count.Count.{Count}
use Rattle.row_view.specs.declared.found.TheConstants.{VALUES}
use Rattle.row_view.specs.declared.marks.Mark.{Mark}
use Rattle.row_view.specs.RowFields.{lengths_of, fault_of, row_lengths, row_values, row_wire_fault}
use Rattle.row_view.specs.Row.{size_of_all}
use Rattle.row_view.specs.Private.Marks.{AreMarks}

-- the lengths of the message are counted but for those that are left; their sum stops at its type's greatest
pub record IsCounted (message : List ℕ) (left : List ℤ) (count : Count) (marks : List Mark) : Type 0 where
  pub left_are : drop count.columns (row_lengths message) ≡ left
  pub all : count.columns + length left ≡ length (row_lengths message)
  pub bytes_are : min count.bytes (2 ^ 64 - 1) ≡ min (size_of_all (take count.columns (row_lengths message))) (2 ^ 64 - 1)
  pub marks_are : AreMarks message count.columns marks

-- a message is read up to its rest
pub record IsRead (message rest values : List ℕ) (count : Count) (marks : List Mark) : Type 0 where
  pub front : List ℕ
  pub is : message ≡ front ++ rest
  pub fault : fault_of (fields_of rest) ≡ row_wire_fault message
  pub values_are : last_of values (filter_map (part_in VALUES) (fields_of rest).items) ≡ row_values message
  pub short : length values ≤ length message
  pub few : count.columns + length rest ≤ length message
  pub counted : IsCounted message (lengths_of (fields_of rest).items) count marks

-- a message is read
pub record IsFound (message values : List ℕ) (count : Count) (marks : List Mark) : Type 0 where
  pub whole : row_wire_fault message ≡ None
  pub values_are : values ≡ row_values message
  pub short : length values ≤ length message
  pub counted : IsCounted message [] count marks
