-- Messages that are written first and whose heads are put in front of them.
use Rattle.std.proofs.Common.{◌≡◌, ℕ, List, ◌∷◌, ◌++◌, length, take, drop, sym, ap, ap₂, ◌∙◌, append_assoc}
use Rattle.std.proofs.Math.Seq.{take-append_seam, drop-append_seam}
use Rattle.proto_wire.specs.Field.{WireField}
use Rattle.proto_wire.specs.Writing.{written_field, written_fields, message_field}

-- bytes that are put in front of those behind the first ones
pub put_between : (old before behind made head : List ℕ) (start : ℕ) → length before ≡ start → old ≡ before ++ behind → made ≡ head → take start old ++ (made ++ drop start old) ≡ before ++ (head ++ behind)
put_between old before behind made head start long is same =
    ap₂ (λ (n : ℕ) (bytes : List ℕ). take n bytes ++ (made ++ drop n bytes)) (sym long) is
    ∙ ap₂ (λ (front rest : List ℕ). front ++ (made ++ rest)) (take-append_seam before behind) (drop-append_seam before behind)
    ∙ ap (λ (bytes : List ℕ). before ++ (bytes ++ behind)) same

-- a message more, of those that are still to come
pub made_then : (all out new message : List ℕ) (number : ℕ) (rest : List WireField) → out ++ written_fields (message_field number message ∷ rest) ≡ all
    → new ≡ out ++ written_field (message_field number message) → new ++ written_fields rest ≡ all
made_then all out new message number rest is made =
    ap (λ (bytes : List ℕ). bytes ++ written_fields rest) made ∙ append_assoc out (written_field (message_field number message)) (written_fields rest) ∙ is
