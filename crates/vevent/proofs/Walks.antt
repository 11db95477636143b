-- One more field of a message is met.
use Rattle.std.proofs.Common.{◌≡◌, ◌∷◌, ℕ, List, [], Option, Some, None, Result, Ok, refl, subst, sym}
use Rattle.std.specs.Prelude.{option_and_then}
use Rattle.proto_wire.specs.Reading.{Reading, Next}
use Rattle.proto_wire.specs.Field.{WireField}
use Rattle.proto_wire.specs.Parts.{bytes_in}
use Rattle.vevent.specs.Fault.{first_in}

-- the reader's next item is the front of what was still to come
pub next_item : {X A F : Type 0} (view : X → A) (old new : Reading A F) (r : Result (Option X) F) (x : X) → Next view old r new → r ≡ Ok (Some x) → (old.items ≡ view x ∷ new.items) × (old.fault ≡ new.fault)
next_item view old new r x next e = subst (λ given. Next view old given new) e next

-- where nothing is at fault in a field, the first fault is that of the others
pub first_in_rest : {F : Type 0} (inside : ℕ → List ℕ → Option F) (f : WireField) (all rest : List WireField) (end : Option F) → all ≡ f ∷ rest → None ≡ option_and_then (inside f.number) (bytes_in f.value) → first_in inside rest end ≡ first_in inside all end
first_in_rest inside f all rest end next none = rw next (rw (sym none) refl)

none_in : {F : Type 0} (bytes : Option (List ℕ)) → option_and_then {U = F} (λ _. None) bytes ≡ None
none_in None = refl
none_in (Some bytes) = refl

-- where nothing can be at fault in a field, the first fault is the one that ends them
pub first_in_none : {F : Type 0} (fields : List WireField) (end : Option F) → first_in (λ _ _. None) fields end ≡ end
first_in_none [] end = refl
first_in_none (f ∷ fields) end = rw (none_in (bytes_in f.value)) (first_in_none fields end)
