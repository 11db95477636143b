-- Writing one part of a message after another.
use Rattle.std.proofs.Common.{◌≡◌, ℕ, ◌+◌, ◌<◌, List, [], ◌∷◌, ◌++◌, length, sym, ap, ◌∙◌, append_assoc, arith, get_or, drop}
use Rattle.std.proofs.lemmas.List.{append-nil, length-append, at_drop_more}
use Rattle.std.proofs.lemmas.List.Concat.{flat_map-append}
use Rattle.proto_wire.specs.Field.{WireField}
use Rattle.proto_wire.specs.Writing.{written_field, written_fields, message_field, Begins}

-- more fields behind those that are written
pub written_more : (old one two : List ℕ) (xs ys : List WireField) → one ≡ old ++ written_fields xs → two ≡ one ++ written_fields ys → two ≡ old ++ written_fields (xs ++ ys)
written_more old one two xs ys a b =
    b ∙ ap (λ (w : List ℕ). w ++ written_fields ys) a ∙ append_assoc old (written_fields xs) (written_fields ys)
    ∙ ap (λ (w : List ℕ). old ++ w) (sym (flat_map-append written_field xs ys))

-- a message behind its head
pub message_written : (one two three message : List ℕ) (number : ℕ) → two ++ message ≡ one ++ written_field (message_field number message) → three ≡ two ++ message
    → three ≡ one ++ written_fields (message_field number message ∷ [])
message_written one two three message number a b = b ∙ a ∙ ap (λ (w : List ℕ). one ++ w) (sym (append-nil (written_field (message_field number message))))

-- how many bytes fields and a message have
pub length-with_message : (xs : List WireField) (message : List ℕ) (number : ℕ) → length (written_fields (xs ++ message_field number message ∷ [])) ≡ length (written_fields xs) + length (written_field (message_field number message))
length-with_message xs message number =
    let f = message_field number message in
    ap length (flat_map-append written_field xs (f ∷ [])) ∙ length-append (written_fields xs) (written_field f ++ []) ∙ ap (λ (w : List ℕ). length (written_fields xs) + length w) (append-nil (written_field f))

pub begins_behind : (a b c : List ℕ) → Begins a b → Begins b c → Begins a c
begins_behind a b c one two = record { more = one.more ++ two.more; is = two.is ∙ ap (λ (w : List ℕ). w ++ two.more) one.is ∙ append_assoc a one.more two.more }

-- ---- one message after another

-- a message more, of those that are still to come
pub message_then : (all out mid new message : List ℕ) (number : ℕ) (rest : List WireField) → out ++ written_fields (message_field number message ∷ rest) ≡ all
    → mid ++ message ≡ out ++ written_field (message_field number message) → new ≡ mid ++ message → new ++ written_fields rest ≡ all
message_then all out mid new message number rest is head body =
    ap (λ (w : List ℕ). w ++ written_fields rest) (body ∙ head) ∙ append_assoc out (written_field (message_field number message)) (written_fields rest) ∙ is

-- nothing is still to come
pub nothing_then : (all out : List ℕ) → out ++ [] ≡ all → out ≡ all
nothing_then all out is = sym (append-nil out) ∙ is

-- a field more is counted, of those that are still to come
pub counted_then : (all size one next : ℕ) (f : WireField) (rest : List WireField) → size + length (written_fields (f ∷ rest)) ≡ all → one ≡ length (written_field f) → next ≡ size + one
    → next + length (written_fields rest) ≡ all
counted_then all size one next f rest is one_is next_is = omega (arith, is, one_is, next_is, length-append (written_field f) (written_fields rest))

-- what is said of an item and those behind it is said of those that are left at its place
pub at_item : {X : Type 0} {Y : Type 0} (F : List X → Y) (xs : List X) (i : ℕ) (x : X) → i < length xs → x ≡ get_or xs i x → F (x ∷ drop (i + 1) xs) ≡ F (drop i xs)
at_item F xs i x lt is = ap (λ y. F (y ∷ drop (i + 1) xs)) is ∙ sym (at_drop_more F xs i x lt)
