-- How the values of a column are written: by its type in the log and the type that the workflow says (MySQL
-- internals manual, "Table_map_event", and `query.proto`, Type).
use Rattle.std.specs.Prelude.{ℕ, ◌+◌, ◌-◌, ◌*◌, ◌/◌, ◌%◌, ◌==◌, ◌&&◌, ◌||◌, nat_lt, nat_le, if◌then◌else◌, Option, Some, None}
use Rattle.std.specs.Option.{option_map}
use Rattle.log_events.specs.declared.number.Size.{Size}
use Rattle.log_events.specs.declared.number.Size.TheVariants as size
use Rattle.log_values.specs.declared.comma.Comma.{Comma}
use Rattle.log_values.specs.declared.kind.Fraction.{Fraction}
use Rattle.log_values.specs.declared.kind.Fraction.TheVariants as fraction
use Rattle.log_values.specs.declared.kind.Kind.{Kind}
use Rattle.log_values.specs.declared.kind.Kind.TheVariants.{Signed, Unsigned, Counted, Padded, Bits, Decimal, Date, Year, DateTime, Time, Timestamp, Label, Labels}

-- how many bytes of metadata a type has
abbrev pub metadata_size : ℕ → ℕ
metadata_size t =
    if (t == 15) || (t == 16) || (t == 246) || (t == 254) then 2
    else if (t == 17) || (t == 18) || (t == 19) || (t == 252) then 1 else 0

-- ---- whole numbers: 1, 2, 9, 3 and 8, with a sign and without

abbrev pub whole_kind : ℕ → ℕ → ℕ → Size → Option Kind
whole_kind wanted signed unsigned size =
    if wanted == signed then Some (Signed size) else if wanted == unsigned then Some (Unsigned size) else None

abbrev pub number_kind : ℕ → ℕ → Option Kind
number_kind wanted t =
    if t == 1 then whole_kind wanted 257 770 size.One
    else if t == 2 then whole_kind wanted 259 772 size.Two
    else if t == 9 then whole_kind wanted 261 774 size.Three
    else if t == 3 then whole_kind wanted 263 776 size.Four
    else if t == 8 then whole_kind wanted 265 778 size.Eight else None

-- ---- days and times: DATE 10, YEAR 13, TIMESTAMP 17, DATETIME 18, TIME 19

abbrev pub fraction_of : ℕ → Option Fraction
fraction_of digits =
    if digits == 0 then Some fraction.Whole else if digits == 1 then Some fraction.One else if digits == 2 then Some fraction.Two
    else if digits == 3 then Some fraction.Three else if digits == 4 then Some fraction.Four else if digits == 5 then Some fraction.Five
    else if digits == 6 then Some fraction.Six else None

abbrev pub time_kind : ℕ → ℕ → ℕ → Option Kind
time_kind wanted t meta =
    if (t == 10) && (wanted == 2062) then Some Date
    else if (t == 13) && (wanted == 785) then Some Year
    else if (t == 17) && (wanted == 2061) then option_map Timestamp (fraction_of meta)
    else if (t == 18) && (wanted == 2064) then option_map DateTime (fraction_of meta)
    else if (t == 19) && (wanted == 2063) then option_map Time (fraction_of meta) else None

-- ---- texts, bytes and the rest: VARCHAR 15, BIT 16, DECIMAL 246, TEXT and BLOB 252, and 254, which has a type within

-- how many bytes the count of a text has that may have so many
abbrev pub count_size : ℕ → Size
count_size most = if nat_lt 255 most then size.Two else size.One

abbrev pub blob_size : ℕ → Option Size
blob_size n =
    if n == 1 then Some size.One else if n == 2 then Some size.Two else if n == 3 then Some size.Three else if n == 4 then Some size.Four else None

abbrev pub label_size : ℕ → Option Size
label_size n = if n == 1 then Some size.One else if n == 2 then Some size.Two else None

abbrev pub labels_size : ℕ → Option Size
labels_size n =
    if n == 1 then Some size.One else if n == 2 then Some size.Two else if n == 3 then Some size.Three
    else if n == 4 then Some size.Four else if n == 8 then Some size.Eight else None

-- SET of so many bytes, where the comma is known that parts its labels
abbrev pub labels_kind : Option Size → Option Comma → Option Kind
labels_kind None comma = None
labels_kind (Some size) None = None
labels_kind (Some size) (Some comma) = Some (Labels size comma)

-- CHAR or BINARY of so many bytes
abbrev pub char_kind : ℕ → ℕ → Option Kind
char_kind wanted width =
    if wanted == 6167 then Some (Counted (count_size width)) else if wanted == 10264 then Some (Padded (count_size width) width) else None

-- the type within is the lowest byte: ENUM 247, SET 248, and of CHAR and BINARY 254 with two bits of the width turned
abbrev pub string_kind : ℕ → ℕ → Option Comma → Option Kind
string_kind wanted meta comma =
    if meta % 256 == 247 then (if wanted == 2074 then option_map Label (label_size (meta / 256)) else None)
    else if meta % 256 == 248 then (if wanted == 2075 then labels_kind (labels_size (meta / 256)) comma else None)
    else if (meta % 256 / 64 == 3) && (meta % 16 == 14) then char_kind wanted (meta / 256 + 256 * (3 - meta / 16 % 4)) else None

abbrev pub decimal_kind : ℕ → Option Kind
decimal_kind meta = if nat_le (meta % 256) 65 && nat_le (meta / 256) (meta % 256) then Some (Decimal (meta % 256) (meta / 256)) else None

-- BIT: the bits that are over, and the whole bytes
abbrev pub bit_kind : ℕ → Kind
bit_kind meta = if meta % 256 == 0 then Bits (meta / 256) else Bits (meta / 256 + 1)

abbrev pub text_kind : ℕ → ℕ → ℕ → Option Comma → Option Kind
text_kind wanted t meta comma =
    if (t == 15) && ((wanted == 6165) || (wanted == 10262)) then Some (Counted (count_size meta))
    else if (t == 252) && ((wanted == 6163) || (wanted == 10260)) then option_map Counted (blob_size meta)
    else if (t == 254) then string_kind wanted meta comma
    else if (t == 246) && (wanted == 18) then decimal_kind meta
    else if (t == 16) && (wanted == 2073) && nat_le meta 2048 then Some (bit_kind meta) else None

-- ---- all of them

-- how the values of a column are written, the labels of a SET with this comma; or nothing where its type in the log isn't
-- that of the workflow or isn't read
unfoldable pub kind_of : ℕ → ℕ → ℕ → Option Comma → Option Kind
kind_of wanted t meta comma =
    if (t == 1) || (t == 2) || (t == 9) || (t == 3) || (t == 8) then number_kind wanted t
    else if (t == 10) || (t == 13) || (t == 17) || (t == 18) || (t == 19) then time_kind wanted t meta else text_kind wanted t meta comma
