-- Names and values as they stand in statements of SQL (the MySQL manual, 'Schema Object Names' and 'Literal Values'),
-- whatever the server's modes and character sets.
use Rattle.std.specs.Prelude.{ℕ, ◌==◌, ◌&&◌, ◌||◌, nat_le, nat_lt, Bool, length, List, [], ◌∷◌, ◌++◌, Option, None, Some, codes, if◌then◌else◌}
use Rattle.std.specs.List.{flat_map, list_all}
use Rattle.hex.specs.Hex.{encode_lower}
use Rattle.filter_rule.specs.TypeNumbers.{is_one_of, is_whole_number}

-- ---- names

-- a byte, a backtick twice
abbrev pub name_byte : ℕ → List ℕ
name_byte byte = if byte == 96 then 96 ∷ 96 ∷ [] else byte ∷ []

-- a name between backticks
abbrev pub quoted_name : List ℕ → List ℕ
quoted_name name = 96 ∷ flat_map name_byte name ++ 96 ∷ []

-- ---- values

-- bytes by their digits
abbrev pub hex_literal : List ℕ → List ℕ
hex_literal value = codes "x'" ++ encode_lower value ++ codes "'"

-- the same as a text, of which MySQL makes a JSON value
abbrev pub json_literal : List ℕ → List ℕ
json_literal value = codes "CONVERT(" ++ hex_literal value ++ codes " USING utf8mb4)"

abbrev pub is_digit : ℕ → Bool
is_digit byte = nat_le 48 byte && nat_le byte 57

-- one decimal digit or more
abbrev pub are_digits : List ℕ → Bool
are_digits text = nat_lt 0 (length text) && list_all is_digit text

-- what stands behind a minus in front
abbrev pub behind_minus : List ℕ → List ℕ
behind_minus [] = []
behind_minus (byte ∷ text) = if byte == 45 then text else byte ∷ text

-- a whole number: digits, or a minus and digits
abbrev pub is_whole_text : List ℕ → Bool
is_whole_text text = are_digits (behind_minus text)

-- the bytes of other numbers, of dates and of times: digits and ` +-.:Ee`
abbrev pub is_plain : ℕ → Bool
is_plain byte = is_digit byte || is_one_of (codes " +-.:Ee") byte

-- DECIMAL, YEAR, FLOAT and DOUBLE, TIMESTAMP, DATE, TIME and DATETIME (`query.proto`, Type)
abbrev pub plain_types : List ℕ
plain_types = 18 ∷ 785 ∷ 1035 ∷ 1036 ∷ 2061 ∷ 2062 ∷ 2063 ∷ 2064 ∷ []

-- JSON
abbrev pub json_type : ℕ
json_type = 2078

-- a value by its column's type: a whole number by its digits; another number, a date or a time between quotes, which
-- none of its bytes can end; any other value by its bytes, which no character set comes between
abbrev pub value_literal : ℕ → List ℕ → List ℕ
value_literal type_number value =
    if is_whole_number type_number && is_whole_text value then value else
    if is_one_of plain_types type_number && list_all is_plain value then 39 ∷ value ++ 39 ∷ [] else
    if type_number == json_type then json_literal value else
    hex_literal value

abbrev pub literal : ℕ → Option (List ℕ) → List ℕ
literal type_number None = codes "NULL"
literal type_number (Some value) = value_literal type_number value
