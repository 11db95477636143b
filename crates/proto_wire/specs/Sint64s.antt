-- What a message holds of a `repeated sint64` field: each number by itself or several packed, in any
-- mixture (protobuf encoding guide, "Repeated Elements"). A field of another wire type says nothing.
use Rattle.std.specs.Prelude.{ℕ, ℤ, ◌==◌, List, [], ◌∷◌, ◌++◌, map, if◌then◌else◌}
use Rattle.std.specs.List.{flat_map}
use Rattle.proto_wire.specs.Varint.{varints_of}
use Rattle.proto_wire.specs.Field.{WireValue, WireField, Varint, Eight, Bytes, Four, fields_of}
use Rattle.proto_wire.specs.Zigzag.{unzigzag_of}

-- the numbers in a payload: a single one, or a packed list of them
abbrev pub sint64s_in : WireValue → List ℤ
sint64s_in (Varint n) = unzigzag_of n ∷ []
sint64s_in (Eight b) = []
sint64s_in (Bytes b) = map unzigzag_of (varints_of b).items
sint64s_in (Four b) = []

-- the numbers in a field, if it has the field's number
abbrev pub sint64s_at : ℕ → WireField → List ℤ
sint64s_at number f = if f.number == number then sint64s_in f.value else []

-- all numbers of these fields, in order
abbrev pub sint64s_of : ℕ → List WireField → List ℤ
sint64s_of number fields = flat_map (sint64s_at number) fields

-- all numbers of a message, in order
abbrev pub sint64s : ℕ → List ℕ → List ℤ
sint64s number message = sint64s_of number (fields_of message).items

-- the numbers that are left of a packed part, and those of the fields behind it
abbrev pub sint64s_left : ℕ → List ℕ → List ℕ → List ℤ
sint64s_left number packed fields = map unzigzag_of (varints_of packed).items ++ sint64s number fields
