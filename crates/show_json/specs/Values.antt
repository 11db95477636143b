-- A row as JSON (RFC 8259; this profile): its values by their columns.
use Rattle.std.specs.Prelude.{ℕ, ◌+◌, ◌==◌, ◌&&◌, ◌||◌, nat_le, not, Bool, List, [], ◌∷◌, Option, None, Some, codes, decimal, if◌then◌else◌}
use Rattle.std.specs.List.{list_all}
use Rattle.std.specs.Str.{is_utf8}
use Rattle.row_view.specs.FieldValue.{FieldValue}
use Rattle.serde_json.specs.Data.{Data, null, string, object, Members, no_members, member}
use Rattle.dump.specs.Cells.{cell}

-- a byte that is no control character of ASCII but a tab, a line feed or a carriage return
abbrev pub is_text_byte : ℕ → Bool
is_text_byte byte = (nat_le 32 byte && not (byte == 127)) || byte == 9 || byte == 10 || byte == 13

-- bytes that are printable as a text: UTF-8 without other control characters
abbrev pub is_text : List ℕ → Bool
is_text bytes = list_all is_text_byte bytes && is_utf8 bytes

-- bytes as a cell of a dump
abbrev pub cell_data : List ℕ → Data
cell_data bytes = object (member (codes "bytes") (string (cell (Some bytes))) no_members)

-- a value: the text that it is, else its bytes
abbrev pub bytes_data : List ℕ → Data
bytes_data bytes = if is_text bytes then string bytes else cell_data bytes

-- the value of a column: null for NULL
abbrev pub value_data : Option (List ℕ) → Data
value_data None = null
value_data (Some bytes) = bytes_data bytes

-- the name of the first column that is left, or else its number
abbrev pub name_of : ℕ → List FieldValue → List ℕ
name_of i [] = decimal i
name_of i (column ∷ columns) = column.name

-- the columns behind it
abbrev pub behind_first : List FieldValue → List FieldValue
behind_first [] = []
behind_first (column ∷ columns) = columns

-- values from column i on, each by the name that its column has, or else by its number, from 1
abbrev pub value_members : ℕ → List FieldValue → List (Option (List ℕ)) → Members
value_members i columns [] = no_members
value_members i columns (value ∷ row) = member (name_of i columns) (value_data value) (value_members (i + 1) (behind_first columns) row)

-- a row: an object of its values in order
abbrev pub row_data : List FieldValue → List (Option (List ℕ)) → Data
row_data columns row = object (value_members 1 columns row)

-- null where there is no row
abbrev pub side_data : List FieldValue → Option (List (Option (List ℕ))) → Data
side_data columns None = null
side_data columns (Some row) = row_data columns row
