-- Fields: a tag varint, `number * 8 + wire type`, and the payload of that wire type (protobuf
-- encoding guide, "Message Structure").
use Rattle.std.specs.Prelude.{◌≡◌, ℕ, ◌+◌, ◌*◌, ◌/◌, ◌%◌, ◌^◌, ◌<◌, ◌≤◌, ◌==◌, ◌⊎◌, List, ◌++◌, length, take, drop, Option, Some, None, Result, Ok, Err, nat_lt, if◌then◌else◌}
use Rattle.proto_wire.specs.declared.fault.WireFault.{WireFault}
use Rattle.proto_wire.specs.declared.fault.WireFault.TheVariants.{Truncated, BadFieldNumber, GroupWireType, BadWireType}
use Rattle.proto_wire.specs.declared.field.Payload.{Payload}
use Rattle.proto_wire.specs.declared.field.Payload.TheVariants as payload
use Rattle.proto_wire.specs.declared.field.Field.{Field}
use Rattle.list_laws.specs.Outcome.{◌>>=◌}
use Rattle.proto_wire.specs.Reading.{Reading, reading_of, Spells}
use Rattle.proto_wire.specs.Varint.{IsVarint, NoVarint, varint_at}

-- a payload: a varint, eight bytes, a text, bytes or an embedded message, four bytes
pub data WireValue : Type 0 where
  Varint : ℕ → WireValue
  Eight : List ℕ → WireValue
  Bytes : List ℕ → WireValue
  Four : List ℕ → WireValue

-- a field without where it lies in memory
pub record WireField : Type 0 where
  pub number : ℕ
  pub value : WireValue

-- how a payload of the program is seen
abbrev pub wire_value : Payload → WireValue
wire_value (payload.Varint n) = Varint n
wire_value (payload.Eight b) = Eight b.now
wire_value (payload.Bytes b) = Bytes b.now
wire_value (payload.Four b) = Four b.now

-- how a field of the program is seen
abbrev pub wire_field : Field → WireField
wire_field f = record { number = f.number; value = wire_value f.payload }

-- ---- as a relation

-- the wire type of a payload
abbrev pub wire_type : WireValue → ℕ
wire_type (Varint n) = 0
wire_type (Eight b) = 1
wire_type (Bytes b) = 2
wire_type (Four b) = 5

-- the bytes of a payload
abbrev pub IsPayload : List ℕ → WireValue → Type 0
IsPayload bytes (Varint n) = IsVarint bytes n
IsPayload bytes (Eight b) = (bytes ≡ b) × (length b ≡ 8)
IsPayload bytes (Bytes b) = (size : List ℕ) × IsVarint size (length b) × (bytes ≡ size ++ b)
IsPayload bytes (Four b) = (bytes ≡ b) × (length b ≡ 4)

-- a field's number is 1 to 2^29 - 1
abbrev pub IsFieldNumber : ℕ → Type 0
IsFieldNumber n = (1 ≤ n) × (n < 2 ^ 29)

-- the bytes are a field: its tag and then its payload
abbrev pub IsField : List ℕ → WireField → Type 0
IsField bytes f = (tag : List ℕ) × (body : List ℕ) × (bytes ≡ tag ++ body) × IsFieldNumber f.number × IsVarint tag (f.number * 8 + wire_type f.value) × IsPayload body f.value

-- why no payload of a wire type stands at the front; for 3, 4, 6 and 7 there is none to be cut
abbrev pub NoPayload : ℕ → List ℕ → WireFault → Type 0
NoPayload kind bytes fault = ((kind ≡ 0) × NoVarint bytes fault)
    ⊎ ((kind ≡ 1) × (fault ≡ Truncated) × (length bytes < 8))
    ⊎ ((kind ≡ 2) × NoVarint bytes fault)
    ⊎ ((kind ≡ 2) × (fault ≡ Truncated) × ((size rest : List ℕ) × (n : ℕ) × (bytes ≡ size ++ rest) × IsVarint size n × (length rest < n)))
    ⊎ ((kind ≡ 5) × (fault ≡ Truncated) × (length bytes < 4))

-- Why the body behind a tag of this number and wire type makes no field: first what cuts the payload
-- short, then the number, then a wire type that has no payload.
abbrev pub NoFieldBehind : ℕ → ℕ → List ℕ → WireFault → Type 0
NoFieldBehind number kind body fault = NoPayload kind body fault
    ⊎ (((other : WireFault) → ¬ NoPayload kind body other) × (fault ≡ BadFieldNumber) × ¬ IsFieldNumber number)
    ⊎ (IsFieldNumber number × (fault ≡ GroupWireType) × ((kind ≡ 3) ⊎ (kind ≡ 4)))
    ⊎ (IsFieldNumber number × (fault ≡ BadWireType) × ((kind ≡ 6) ⊎ (kind ≡ 7)))

-- why no field stands at the front
abbrev pub NoField : List ℕ → WireFault → Type 0
NoField bytes fault = NoVarint bytes fault
    ⊎ ((tag : List ℕ) × (body : List ℕ) × (n : ℕ) × (bytes ≡ tag ++ body) × IsVarint tag n × NoFieldBehind (n / 8) (n % 8) body fault)

-- the bytes are these fields, and then the end or this fault
abbrev pub AreFields : List ℕ → Reading WireField WireFault → Type 0
AreFields bytes r = Spells IsField NoField bytes r.items r.fault

-- ---- as a function

-- the first n bytes, and those after them
abbrev pub bytes_at : ℕ → List ℕ → Result (List ℕ × List ℕ) WireFault
bytes_at n bytes = if nat_lt (length bytes) n then Err Truncated else Ok (take n bytes, drop n bytes)

-- a length and that many bytes
unfoldable pub sized_at : List ℕ → Result (List ℕ × List ℕ) WireFault
sized_at bytes = varint_at bytes >>= λ size. bytes_at size.0 size.1

-- the number, if it is one of a field
abbrev pub number_at : ℕ → Result ℕ WireFault
number_at number = if nat_lt number 1 then Err BadFieldNumber else if nat_lt number (2 ^ 29) then Ok number else Err BadFieldNumber

-- the payload of a wire type, if it has one, and the bytes after it
unfoldable pub payload_at : ℕ → List ℕ → Result (Option WireValue × List ℕ) WireFault
payload_at kind body =
    if kind == 0 then (varint_at body >>= λ v. Ok (Some (Varint v.0), v.1)) else
    if kind == 1 then (bytes_at 8 body >>= λ v. Ok (Some (Eight v.0), v.1)) else
    if kind == 2 then (sized_at body >>= λ v. Ok (Some (Bytes v.0), v.1)) else
    if kind == 5 then (bytes_at 4 body >>= λ v. Ok (Some (Four v.0), v.1)) else Ok (None, body)

-- the field of a number with a payload; a wire type without one is a group's or unknown
abbrev pub field_with : ℕ → ℕ → Option WireValue → List ℕ → Result (WireField × List ℕ) WireFault
field_with number kind (Some value) rest = Ok (record { number = number; value = value }, rest)
field_with number kind None rest = if kind == 3 then Err GroupWireType else if kind == 4 then Err GroupWireType else Err BadWireType

-- the field behind a tag of this number and wire type
unfoldable pub field_behind : ℕ → ℕ → List ℕ → Result (WireField × List ℕ) WireFault
field_behind number kind body = payload_at kind body >>= λ v. number_at number >>= λ n. field_with n kind v.0 v.1

-- the field at the front, and the bytes after it
unfoldable pub field_at : List ℕ → Result (WireField × List ℕ) WireFault
field_at bytes = varint_at bytes >>= λ tag. field_behind (tag.0 / 8) (tag.0 % 8) tag.1

-- the fields of the bytes, and the fault that ends them
abbrev pub fields_of : List ℕ → Reading WireField WireFault
fields_of bytes = reading_of field_at bytes
