-- How a row is written (`query.proto`, Row): its lengths packed, a NULL's as -1, and its values one
-- after another. A single length stands in a field of its own, a byte less, where the row is within the
-- limits only so.
use Rattle.std.specs.Prelude.{◌≡◌, ℕ, ℤ, pos, negsuc, ◌^◌, ◌≤◌, ◌==◌, ◌&&◌, nat_lt, if◌then◌else◌, Bool, List, [], ◌++◌, map, length, Option, Some, None, Ok}
use Rattle.std.specs.List.{flat_map}
use Rattle.proto_wire.specs.Field.{WireField, Varint}
use Rattle.proto_wire.specs.Varint.{AreBytes}
use Rattle.proto_wire.specs.Writing.{written_numbers, written_fields, text_field}
use Rattle.proto_wire.specs.Zigzag.{zigzag_of}
use Rattle.row_view.specs.declared.found.TheConstants.{LENGTHS, VALUES}
use Rattle.row_view.specs.Row.{IsRow, row_of_message}
use Rattle.row_view.specs.Picked.{picked, ArePlaces, AreApart}

-- the length of a column: that of its value, and -1 for NULL
abbrev pub length_of : Option (List ℕ) → ℤ
length_of None = negsuc 0
length_of (Some value) = pos (length value)

-- the number that a column's length travels as
abbrev pub length_number : Option (List ℕ) → ℕ
length_number column = zigzag_of (length_of column)

-- the bytes of a column's value; NULL has none
abbrev pub value_bytes : Option (List ℕ) → List ℕ
value_bytes None = []
value_bytes (Some value) = value

-- the lengths of columns, packed
abbrev pub written_lengths : List (Option (List ℕ)) → List ℕ
written_lengths columns = written_numbers (map length_number columns)

-- the values of columns
abbrev pub written_values : List (Option (List ℕ)) → List ℕ
written_values columns = flat_map value_bytes columns

-- the fields of a row message whose lengths are packed
abbrev pub packed_fields : List (Option (List ℕ)) → List WireField
packed_fields columns = text_field LENGTHS (written_lengths columns) ++ text_field VALUES (written_values columns)

-- whether a row is of one column and its length isn't packed, since the row would have more than 2^24 bytes
abbrev pub is_plain : List (Option (List ℕ)) → Bool
is_plain columns = length columns == 1 && nat_lt (2 ^ 24) (length (written_fields (packed_fields columns)))

-- the length of a column in a field of its own
abbrev pub length_field : Option (List ℕ) → WireField
length_field column = record { number = LENGTHS; value = Varint (length_number column) }

-- the fields that have the lengths
unfoldable pub length_fields : List (Option (List ℕ)) → List WireField
length_fields columns = if is_plain columns then map length_field columns else text_field LENGTHS (written_lengths columns)

-- the fields of a row message
abbrev pub row_fields : List (Option (List ℕ)) → List WireField
row_fields columns = length_fields columns ++ text_field VALUES (written_values columns)

-- a row message as it is written
abbrev pub written_row : List (Option (List ℕ)) → List ℕ
written_row columns = written_fields (row_fields columns)

-- a row within the limits: 256 columns, and 2^24 bytes as it is written
pub record IsWithinLimits (columns : List (Option (List ℕ))) : Type 0 where
  pub few : length columns ≤ 256
  pub short : length (written_row columns) ≤ 2 ^ 24

-- a row within the limits that is written is read as this row
abbrev pub RowsAreReadAgain : Type 0
RowsAreReadAgain = (columns : List (Option (List ℕ))) → IsWithinLimits columns → row_of_message (written_row columns) ≡ Ok columns

-- a row that was read is within the limits, however it was written
abbrev pub RowsAreWithinLimits : Type 0
RowsAreWithinLimits = (bytes : List ℕ) (columns : List (Option (List ℕ))) → AreBytes bytes → IsRow bytes columns → IsWithinLimits columns

-- and so are some of its columns, none of them twice
abbrev pub PickedAreWithinLimits : Type 0
PickedAreWithinLimits = (columns : List (Option (List ℕ))) (places : List ℕ) → IsWithinLimits columns → ArePlaces places columns → AreApart places → IsWithinLimits (picked places columns)
