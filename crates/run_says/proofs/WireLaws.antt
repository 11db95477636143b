-- What readers of one item after another give, as relations of success.
use Rattle.std.proofs.Common.{◌≡◌, ℕ, ℤ, Bool, true, false, cond, eqb, List, [], ◌∷◌, ◌++◌, map, length, Option, Some, None, refl, sym, ap, subst, ◌∙◌, arith}
use Rattle.std.specs.Prelude.{unwrap_or, IfSome, nat_lt}
use Rattle.std.specs.List.{AllByRecursion, filter, flat_map, cons_option}
use Rattle.std.specs.Option.{option_to_list}
use Rattle.std.proofs.lemmas.Bool.{eqb-true}
use Rattle.std.proofs.lemmas.Bool.Decides.{nat_tests}
use Rattle.std.proofs.lemmas.List.{map-append}
use Rattle.item_readers.specs.Reading.{Spells}
use Rattle.item_readers.proofs.ReadingLaws.{spells-reading}
use Rattle.proto_wire.specs.Varint.{IsVarint, NoVarint, varint_at, varints_of}
use Rattle.proto_wire.specs.Field as wire
use Rattle.proto_wire.specs.Field.{WireField, WireValue, Varint, Eight, Bytes, Four, wire_type, NoField, field_at, fields_of}
use Rattle.proto_wire.specs.Frame.{IsFrame, NoFrame, frame_at, frames_of}
use Rattle.proto_wire.specs.Parts.{bytes_in, first_of, parts, single, embedded, is_repeated}
use Rattle.proto_wire.specs.Sint64s.{sint64s_in, sint64s_of}
use Rattle.proto_wire.specs.Zigzag.{unzigzag_of}
use Rattle.row_view.specs.RowFields.{packed_fault_in, packed_fault_at}
use Rattle.proto_wire.proofs.VarintLaws.{varint_reader}
use Rattle.proto_wire.proofs.FieldLaws.{field_reader, frame_reader}
use Rattle.run_says.specs.Wire.{AreAll, EachIs, HaveTogether, IsPayload, IsField, IsMessage, AreFramed, held, AreNumbers, HoldNumbers, Embeds}

-- what is spelled without a fault is these items alone
pub all_from_spells : {B A F : Type 0} (IsItem : List B → A → Type 0) (NoItem : List B → F → Type 0) (list : List B) (items : List A) (end : Option F) → end ≡ None → Spells IsItem NoItem list items end → AreAll IsItem list items
all_from_spells IsItem NoItem list [] None e h = h
all_from_spells IsItem NoItem list [] (Some f) e h = absurd cc
all_from_spells IsItem NoItem list (x ∷ xs) end e (front, rest, are, is, others) = (front, rest, are, is, all_from_spells IsItem NoItem rest xs end e others)

payload_says : (value : WireValue) (bytes : List ℕ) → wire.IsPayload bytes value → IsPayload (wire_type value) bytes value
payload_says (Varint n) bytes h = (refl, h)
payload_says (Eight b) bytes h = (refl, h.0, h.1)
payload_says (Bytes b) bytes h = (refl, h)
payload_says (Four b) bytes h = (refl, h.0, h.1)

field_says : (bytes : List ℕ) (f : WireField) → wire.IsField bytes f → IsField bytes f
field_says bytes f (tag, body, are, number, is, payload) = (tag, body, wire_type f.value, are, is, payload_says f.value body payload)

all_weaker : {B A : Type 0} (One Other : List B → A → Type 0) → ((front : List B) (x : A) → One front x → Other front x) → (list : List B) (items : List A) → AreAll One list items → AreAll Other list items
all_weaker One Other f list [] h = h
all_weaker One Other f list (x ∷ xs) (front, rest, are, is, others) = (front, rest, are, f front x is, all_weaker One Other f rest xs others)

pub fields_say : (bytes : List ℕ) → (fields_of bytes).fault ≡ None → IsMessage bytes (fields_of bytes).items
fields_say bytes e = all_weaker wire.IsField IsField field_says bytes (fields_of bytes).items (all_from_spells wire.IsField NoField bytes (fields_of bytes).items (fields_of bytes).fault e (spells-reading wire.IsField NoField field_at field_reader bytes))

pub frames_say : (bytes : List ℕ) → (frames_of bytes).fault ≡ None → AreFramed bytes (frames_of bytes).items
frames_say bytes e = all_from_spells IsFrame (NoFrame (length bytes)) bytes (frames_of bytes).items (frames_of bytes).fault e (spells-reading IsFrame (NoFrame (length bytes)) (frame_at (length bytes)) (frame_reader (length bytes)) bytes)

pub varints_say : (bytes : List ℕ) → (varints_of bytes).fault ≡ None → AreAll IsVarint bytes (varints_of bytes).items
varints_say bytes e = all_from_spells IsVarint NoVarint bytes (varints_of bytes).items (varints_of bytes).fault e (spells-reading IsVarint NoVarint varint_at varint_reader bytes)

-- where something stands for each, they all stand
pub each_is : {A B : Type 0} (R : A → B → Type 0) (f : A → B) (xs : List A) → AllByRecursion (λ x. R x (f x)) xs → EachIs R xs (map f xs)
each_is R f [] h = tt
each_is R f (x ∷ xs) (one, others) = (one, each_is R f xs others)

-- what a function gives of each, they have together
pub together : {A B : Type 0} (Has : A → List B → Type 0) (f : A → List B) (xs : List A) → AllByRecursion (λ x. Has x (f x)) xs → HaveTogether Has xs (flat_map f xs)
together Has f [] h = refl
together Has f (x ∷ xs) (one, others) = (f x, flat_map f xs, one, together Has f xs others, refl)

-- ---- what a message holds

held_step : (P : ℕ → List ℕ → Type 0) (b : Bool) (o : Option (List ℕ)) (number m : ℕ) (rest : List (List ℕ)) → (b ≡ true → m ≡ number) → IfSome o (P m) → AllByRecursion (P number) rest → AllByRecursion (P number) (cons_option (cond b o None) rest)
held_step P false o number m rest same is others = others
held_step P true None number m rest same is others = others
held_step P true (Some part) number m rest same is others = (subst (λ (n : ℕ). P n part) (same refl) is, others)

-- what holds of each part by its number holds of those under one
pub held_all : (P : ℕ → List ℕ → Type 0) (number : ℕ) (fields : List WireField) → AllByRecursion (λ f. IfSome (bytes_in f.value) (P f.number)) fields → AllByRecursion (P number) (held number fields)
held_all P number [] h = tt
held_all P number (f ∷ fs) (one, others) = held_step P (eqb f.number number) (bytes_in f.value) number f.number (held number fs) (eqb-true f.number number) one (held_all P number fs others)

pub alone : (parts : List (List ℕ)) → nat_lt 1 (length parts) ≡ false → parts ≡ option_to_list (first_of parts)
alone [] e = refl
alone (one ∷ []) e = refl
alone (one ∷ two ∷ more) e = absurd (grind (arith, nat_tests))

pub first_or_none : (P : List ℕ → Type 0) (parts : List (List ℕ)) → P [] → AllByRecursion P parts → P (unwrap_or (first_of parts) [])
first_or_none P [] none h = none
first_or_none P (one ∷ more) none h = h.0

-- a message that doesn't stand twice is embedded, where it is a list of fields
pub embeds : (number : ℕ) (message : List ℕ) → is_repeated number message ≡ false → (fields_of (embedded number message)).fault ≡ None → Embeds number (fields_of message).items (fields_of (embedded number message)).items
embeds number message once list = (single number message, alone (parts number message) once, fields_say (embedded number message) list)

-- ---- numbers under a number

abbrev numbers_of : WireValue → List ℕ
numbers_of (Varint n) = n ∷ []
numbers_of (Eight b) = []
numbers_of (Bytes b) = (varints_of b).items
numbers_of (Four b) = []

are_numbers : (v : WireValue) → packed_fault_in v ≡ None → AreNumbers v (numbers_of v)
are_numbers (Varint n) e = refl
are_numbers (Eight b) e = refl
are_numbers (Bytes b) e = varints_say b e
are_numbers (Four b) e = refl

as_signed : (v : WireValue) → sint64s_in v ≡ map unzigzag_of (numbers_of v)
as_signed (Varint n) = refl
as_signed (Eight b) = refl
as_signed (Bytes b) = refl
as_signed (Four b) = refl

abbrev payloads : List WireField → List WireValue
payloads fields = map (λ f. f.value) fields

-- those under number 1
abbrev ones : List WireField → List WireField
ones fields = filter (λ f. eqb f.number 1) fields

sound_step : (b : Bool) (f : WireField) (rest : List WireField) → cond b (packed_fault_in f.value) None ≡ None → AllByRecursion (λ v. AreNumbers v (numbers_of v)) (payloads rest) → AllByRecursion (λ v. AreNumbers v (numbers_of v)) (payloads (cond b (f ∷ rest) rest))
sound_step true f rest e h = (are_numbers f.value e, h)
sound_step false f rest e h = h

sound_ones : (fields : List WireField) → AllByRecursion (λ f. packed_fault_at f ≡ None) fields → AllByRecursion (λ v. AreNumbers v (numbers_of v)) (payloads (ones fields))
sound_ones [] h = tt
sound_ones (f ∷ fs) (one, others) = sound_step (eqb f.number 1) f (ones fs) one (sound_ones fs others)

abbrev pub numbers_under_one : List WireField → List ℕ
numbers_under_one fields = flat_map numbers_of (payloads (ones fields))

pub hold_numbers : (fields : List WireField) → AllByRecursion (λ f. packed_fault_at f ≡ None) fields → HoldNumbers 1 fields (numbers_under_one fields)
hold_numbers fields h = together AreNumbers numbers_of (payloads (ones fields)) (sound_ones fields h)

signed_step : (b : Bool) (f : WireField) (rest : List WireField) (more : List ℤ) → more ≡ map unzigzag_of (flat_map numbers_of (payloads rest)) → cond b (sint64s_in f.value) [] ++ more ≡ map unzigzag_of (flat_map numbers_of (payloads (cond b (f ∷ rest) rest)))
signed_step false f rest more e = e
signed_step true f rest more e = ap (λ xs. xs ++ more) (as_signed f.value) ∙ ap (λ xs. map unzigzag_of (numbers_of f.value) ++ xs) e ∙ sym (map-append unzigzag_of (numbers_of f.value) (flat_map numbers_of (payloads rest)))

pub signed_numbers : (fields : List WireField) → sint64s_of 1 fields ≡ map unzigzag_of (numbers_under_one fields)
signed_numbers [] = refl
signed_numbers (f ∷ fs) = signed_step (eqb f.number 1) f (ones fs) (sint64s_of 1 fs) (signed_numbers fs)
