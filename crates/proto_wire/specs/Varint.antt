-- Varints: seven bits a byte, lowest group first; the high bit says that another byte follows
-- (protobuf encoding guide, "Base 128 Varints"). At most ten bytes, the tenth at most 1, so that the
-- value has 64 bits; longer spellings than needed are varints too.
use Rattle.std.specs.Prelude.{◌≡◌, ℕ, zero, suc, ◌+◌, ◌-◌, ◌*◌, ◌/◌, ◌%◌, ◌<◌, ◌≤◌, ◌⊎◌, List, [], ◌∷◌, ◌++◌, length, Result, Ok, Err, nat_lt, if◌then◌else◌}
use Rattle.std.specs.List.{AllByRecursion}
use Rattle.proto_wire.specs.declared.fault.WireFault.{WireFault}
use Rattle.proto_wire.specs.declared.fault.WireFault.TheVariants.{Truncated, VarintTooLong}
use Rattle.list_laws.specs.Outcome.{◌>>=◌}
use Rattle.proto_wire.specs.Reading.{Reading, reading_of, Spells}

-- ---- as a relation

-- bytes whose high bit is set: another byte follows each
abbrev pub IsContinued : List ℕ → Type 0
IsContinued [] = Unit {0}
IsContinued (b ∷ bytes) = (128 ≤ b) × IsContinued bytes

-- the value of the groups: each byte's seven low bits times 128^place
abbrev pub value_of : List ℕ → ℕ
value_of [] = 0
value_of (b ∷ bytes) = (if nat_lt b 128 then b else b - 128) + 128 * value_of bytes

-- The bytes are a varint with the value n: bytes that are continued and a last one that isn't, ten
-- at most, the tenth at most 1.
abbrev pub IsVarint : List ℕ → ℕ → Type 0
IsVarint bytes n = (front : List ℕ) × (last : ℕ) × (bytes ≡ front ++ last ∷ []) × IsContinued front × (last < 128) × (length front ≤ 9) × (length front ≡ 9 → last ≤ 1) × (n ≡ value_of bytes)

-- Why no varint stands at the front: the bytes end within ten bytes while each is continued; or nine
-- are continued and the tenth is above 1.
abbrev pub NoVarint : List ℕ → WireFault → Type 0
NoVarint bytes fault = ((fault ≡ Truncated) × IsContinued bytes × (length bytes ≤ 9))
    ⊎ ((fault ≡ VarintTooLong) × ((front : List ℕ) × (tenth : ℕ) × (rest : List ℕ) × (bytes ≡ front ++ tenth ∷ rest) × IsContinued front × (length front ≡ 9) × (2 ≤ tenth)))

-- ---- as a function

-- the varint at the front of which at most one byte and then `more` others come, and the bytes after it
unfoldable pub varint_within : ℕ → List ℕ → Result (ℕ × List ℕ) WireFault
varint_within more [] = Err Truncated
varint_within zero (b ∷ bytes) = if nat_lt b 2 then Ok (b, bytes) else Err VarintTooLong
varint_within (suc more) (b ∷ bytes) =
    if nat_lt b 128 then Ok (b, bytes) else (varint_within more bytes >>= λ high. Ok (b - 128 + 128 * high.0, high.1))

-- the varint at the front, and the bytes after it
unfoldable pub varint_at : List ℕ → Result (ℕ × List ℕ) WireFault
varint_at bytes = varint_within 9 bytes

-- the bytes are these varints one after another, and then the end or this fault
abbrev pub AreVarints : List ℕ → Reading ℕ WireFault → Type 0
AreVarints bytes r = Spells IsVarint NoVarint bytes r.items r.fault

-- the varints of a packed list, and the fault that ends them
abbrev pub varints_of : List ℕ → Reading ℕ WireFault
varints_of bytes = reading_of varint_at bytes

-- ---- the shortest spelling

-- each is a byte
abbrev pub AreBytes : List ℕ → Type 0
AreBytes bytes = AllByRecursion (λ b. b < 256) bytes

-- a number in as few bytes as it needs, of which at most `more` are continued
unfoldable pub shortest_within : ℕ → ℕ → List ℕ
shortest_within zero n = n ∷ []
shortest_within (suc more) n = if nat_lt n 128 then n ∷ [] else (n % 128 + 128) ∷ shortest_within more (n / 128)

-- the shortest spelling of a number of 64 bits, the one in which varints are written
unfoldable pub shortest : ℕ → List ℕ
shortest n = shortest_within 9 n
