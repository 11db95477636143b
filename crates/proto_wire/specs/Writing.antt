-- How fields are written (protobuf encoding guide): a tag and then the payload, each number in its
-- shortest spelling; the fields of a message one after another.
use Rattle.std.specs.Prelude.{◌≡◌, ℕ, ◌+◌, ◌*◌, ◌^◌, ◌<◌, ◌==◌, if◌then◌else◌, List, [], ◌∷◌, ◌++◌, length, None}
use Rattle.std.specs.List.{flat_map, AllByRecursion}
use Rattle.proto_wire.specs.Varint.{shortest, varints_of}
use Rattle.proto_wire.specs.Field.{WireValue, WireField, Varint, Eight, Bytes, Four, wire_type, IsFieldNumber, fields_of}

-- ---- one field

-- a payload: bytes stand behind their length
abbrev pub written_payload : WireValue → List ℕ
written_payload (Varint n) = shortest n
written_payload (Eight b) = b
written_payload (Bytes b) = shortest (length b) ++ b
written_payload (Four b) = b

-- a field: its tag, and then its payload
abbrev pub written_field : WireField → List ℕ
written_field f = shortest (f.number * 8 + wire_type f.value) ++ written_payload f.value

-- ---- the fields of a message

-- the fields of a message, one after another
abbrev pub written_fields : List WireField → List ℕ
written_fields fields = flat_map written_field fields

-- a number under a field number; the default, 0, isn't written
abbrev pub number_field : ℕ → ℕ → List WireField
number_field number n = if n == 0 then [] else record { number = number; value = Varint n } ∷ []

-- a text, bytes or packed numbers under a field number; the default, none, isn't written
abbrev pub text_field : ℕ → List ℕ → List WireField
text_field number [] = []
text_field number (b ∷ bytes) = record { number = number; value = Bytes (b ∷ bytes) } ∷ []

-- an embedded message under a field number, which is written where it is empty, too
abbrev pub message_field : ℕ → List ℕ → WireField
message_field number message = record { number = number; value = Bytes message }

-- packed numbers
abbrev pub written_numbers : List ℕ → List ℕ
written_numbers numbers = flat_map shortest numbers

-- ---- what is written is read again

-- a payload can be read: numbers have 64 bits, and eight and four bytes are as many
abbrev pub IsReadable : WireValue → Type 0
IsReadable (Varint n) = n < 2 ^ 64
IsReadable (Eight b) = length b ≡ 8
IsReadable (Bytes b) = length b < 2 ^ 64
IsReadable (Four b) = length b ≡ 4

-- a field can be read
pub record IsWritable (f : WireField) : Type 0 where
  pub number : IsFieldNumber f.number
  pub payload : IsReadable f.value

-- fields that are written are read as these fields
abbrev pub FieldsAreReadAgain : Type 0
FieldsAreReadAgain = (fields : List WireField) → AllByRecursion IsWritable fields
    → fields_of (written_fields fields) ≡ record { items = fields; fault = None }

-- packed numbers that are written are read as these numbers
abbrev pub NumbersAreReadAgain : Type 0
NumbersAreReadAgain = (numbers : List ℕ) → AllByRecursion (λ n. n < 2 ^ 64) numbers
    → varints_of (written_numbers numbers) ≡ record { items = numbers; fault = None }

-- ---- what a writing call leaves

-- what stood there stands there still, and perhaps more behind it
pub record Begins (old new : List ℕ) : Type 0 where
  pub more : List ℕ
  pub is : new ≡ old ++ more
