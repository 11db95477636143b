-- What a message holds under a field number. Any message is read by these words alone: fields come in
-- any order, and fields of another number or of another wire type are skipped (protobuf encoding
-- guide, "Message Structure").
use Rattle.std.specs.Prelude.{ℕ, nat_lt, ◌==◌, if◌then◌else◌, Bool, List, [], ◌∷◌, length, Option, Some, None, unwrap_or}
use Rattle.std.specs.List.{filter_map}
use Rattle.proto_wire.specs.declared.fault.WireFault.{WireFault}
use Rattle.proto_wire.specs.Reading.{Reading}
use Rattle.proto_wire.specs.Field.{WireField, WireValue, Varint, Eight, Bytes, Four, fields_of}

-- the bytes of a text, of bytes or of an embedded message
abbrev pub bytes_in : WireValue → Option (List ℕ)
bytes_in (Bytes b) = Some b
bytes_in (Varint n) = None
bytes_in (Eight b) = None
bytes_in (Four b) = None

-- the value of a varint
abbrev pub varint_in : WireValue → Option ℕ
varint_in (Varint n) = Some n
varint_in (Eight b) = None
varint_in (Bytes b) = None
varint_in (Four b) = None

-- the bytes that a field holds, if it has the number
abbrev pub part_in : ℕ → WireField → Option (List ℕ)
part_in number f = if f.number == number then bytes_in f.value else None

-- the varint that a field holds, if it has the number
abbrev pub count_in : ℕ → WireField → Option ℕ
count_in number f = if f.number == number then varint_in f.value else None

-- all that a message holds under the number, in order
abbrev pub parts : ℕ → List ℕ → List (List ℕ)
parts number message = filter_map (part_in number) (fields_of message).items

-- the last, or the default where there is none
abbrev pub last_of : {A : Type 0} → A → List A → A
last_of default [] = default
last_of default (x ∷ xs) = last_of x xs

-- of a text or bytes the last counts, and an absent one is empty
abbrev pub text : ℕ → List ℕ → List ℕ
text number message = last_of [] (parts number message)

-- of a varint the last counts, and an absent one is 0
abbrev pub scalar : ℕ → List ℕ → ℕ
scalar number message = last_of 0 (filter_map (count_in number) (fields_of message).items)

-- the first, if there is one
abbrev pub first_of : {A : Type 0} → List A → Option A
first_of [] = None
first_of (x ∷ xs) = Some x

-- an embedded message that stands alone, or none
abbrev pub single : ℕ → List ℕ → Option (List ℕ)
single number message = first_of (parts number message)

-- the same, where an absent one is the empty message
abbrev pub embedded : ℕ → List ℕ → List ℕ
embedded number message = unwrap_or (single number message) []

-- more than one stands under the number
abbrev pub is_repeated : ℕ → List ℕ → Bool
is_repeated number message = nat_lt 1 (length (parts number message))

-- what is still to come under the number, of fields that are still to come
abbrev pub parts_left : ℕ → Reading WireField WireFault → Reading (List ℕ) WireFault
parts_left number fields = record { items = filter_map (part_in number) fields.items; fault = fields.fault }
