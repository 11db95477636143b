-- What bytes are: fields, each with a number and a payload, or messages, each behind its length (protobuf encoding guide).
-- `IsVarint` and `IsFrame` are those of proto_wire/specs/Varint.antt and Frame.antt.
use Rattle.std.specs.Prelude.{◌≡◌, ℕ, ◌+◌, ◌*◌, ◌==◌, List, [], ◌∷◌, ◌++◌, Option, map, length, unwrap_or}
use Rattle.std.specs.List.{filter, filter_map}
use Rattle.std.specs.Option.{option_to_list}
use Rattle.proto_wire.specs.Field.{WireField, WireValue, Varint, Eight, Bytes, Four}
use Rattle.proto_wire.specs.Frame.{IsFrame}
use Rattle.proto_wire.specs.Varint.{IsVarint}
use Rattle.proto_wire.specs.Parts.{part_in, count_in, last_of}

-- ---- one after another

-- a list is these items, one after another
abbrev pub AreAll : {B A : Type 0} → (List B → A → Type 0) → List B → List A → Type 0
AreAll IsItem list [] = list ≡ []
AreAll {B} {A} IsItem list (x ∷ xs) = (front : List B) × (rest : List B) × (list ≡ front ++ rest) × IsItem front x × AreAll IsItem rest xs

-- as many of the one as of the other, each so to the one in its place
abbrev pub EachIs : {A B : Type 0} → (A → B → Type 0) → List A → List B → Type 0
EachIs R [] [] = Unit {0}
EachIs R [] (y ∷ ys) = ⊥
EachIs R (x ∷ xs) [] = ⊥
EachIs R (x ∷ xs) (y ∷ ys) = R x y × EachIs R xs ys

-- what each of some has, in order
abbrev pub HaveTogether : {A B : Type 0} → (A → List B → Type 0) → List A → List B → Type 0
HaveTogether Has [] ys = ys ≡ []
HaveTogether {A} {B} Has (x ∷ xs) ys = (own : List B) × (others : List B) × Has x own × HaveTogether Has xs others × (ys ≡ own ++ others)

-- ---- messages

-- the payload of a wire type
abbrev pub IsPayload : ℕ → List ℕ → WireValue → Type 0
IsPayload kind bytes (Varint n) = (kind ≡ 0) × IsVarint bytes n
IsPayload kind bytes (Eight b) = (kind ≡ 1) × (bytes ≡ b) × (length b ≡ 8)
IsPayload kind bytes (Bytes b) = (kind ≡ 2) × IsFrame bytes b
IsPayload kind bytes (Four b) = (kind ≡ 5) × (bytes ≡ b) × (length b ≡ 4)

-- a field: its tag, eight times its number and the wire type, and then its payload
abbrev pub IsField : List ℕ → WireField → Type 0
IsField bytes f = (tag body : List ℕ) × (kind : ℕ) × (bytes ≡ tag ++ body) × IsVarint tag (f.number * 8 + kind) × IsPayload kind body f.value

-- the bytes are a message of these fields, in any order
abbrev pub IsMessage : List ℕ → List WireField → Type 0
IsMessage bytes fields = AreAll IsField bytes fields

-- the bytes are these messages, each behind its length
abbrev pub AreFramed : List ℕ → List (List ℕ) → Type 0
AreFramed bytes messages = AreAll IsFrame bytes messages

-- ---- what fields hold under a number; fields of another number or of another wire type say nothing

-- all texts, bytes or messages, in order
abbrev pub held : ℕ → List WireField → List (List ℕ)
held number fields = filter_map (part_in number) fields

-- of a text or bytes the last counts, and an absent one is empty
abbrev pub text_in : ℕ → List WireField → List ℕ
text_in number fields = last_of [] (held number fields)

-- of a number the last counts, and an absent one is 0
abbrev pub number_in : ℕ → List WireField → ℕ
number_in number fields = last_of 0 (filter_map (count_in number) fields)

-- one message with these fields; an absent one has none
abbrev pub Embeds : ℕ → List WireField → List WireField → Type 0
Embeds number fields inner = (part : Option (List ℕ)) × (held number fields ≡ option_to_list part) × IsMessage (unwrap_or part []) inner

-- the numbers of a payload: one by itself, or a packed list
abbrev pub AreNumbers : WireValue → List ℕ → Type 0
AreNumbers (Varint n) numbers = numbers ≡ n ∷ []
AreNumbers (Bytes packed) numbers = AreAll IsVarint packed numbers
AreNumbers (Eight b) numbers = numbers ≡ []
AreNumbers (Four b) numbers = numbers ≡ []

-- all numbers under a number, in order
abbrev pub HoldNumbers : ℕ → List WireField → List ℕ → Type 0
HoldNumbers number fields numbers = HaveTogether AreNumbers (map (λ f. f.value) (filter (λ f. f.number == number) fields)) numbers
