-- Nothing is at fault on the wire exactly where all messages are lists of fields.
use Rattle.std.proofs.Common.{◌≡◌, ℕ, true, false, eqb, List, [], ◌∷◌, Option, Some, None, refl, sym, subst, inl, inr}
use Rattle.std.specs.Prelude.{IfSome, option_and_then}
use Rattle.std.specs.List.{AllByRecursion}
use Rattle.std.proofs.lemmas.Bool.{cases_eq, eq-eqb, ne_eqb}
use Rattle.proto_wire.specs.declared.fault.WireFault.{WireFault}
use Rattle.proto_wire.specs.Field.{WireField, fields_of}
use Rattle.proto_wire.specs.Parts.{bytes_in}
use Rattle.std.specs.Option.{option_or}
use Rattle.vevent.specs.Fault.{first_in, wire_fault_by, in_plain, in_event, event_wire_fault}
use Rattle.vevent.specs.Standing.{IsList, HoldsLists, IsKnownList, AreLists}
use Rattle.vevent.proofs.FirstFault.{none_first, none_second}

both_none : {F : Type 0} (a b : Option F) → a ≡ None → b ≡ None → option_or a b ≡ None
both_none None b e h = h
both_none (Some f) b e h = absurd cc

part_from : (inside : ℕ → List ℕ → Option WireFault) (number : ℕ) (o : Option (List ℕ)) → option_and_then (inside number) o ≡ None → IfSome o (λ p. inside number p ≡ None)
part_from inside number None e = tt
part_from inside number (Some p) e = e

part_to : (inside : ℕ → List ℕ → Option WireFault) (number : ℕ) (o : Option (List ℕ)) → IfSome o (λ p. inside number p ≡ None) → option_and_then (inside number) o ≡ None
part_to inside number None h = refl
part_to inside number (Some p) h = h

IfSome-weaker : (P Q : List ℕ → Type 0) → ((p : List ℕ) → P p → Q p) → (o : Option (List ℕ)) → IfSome o P → IfSome o Q
IfSome-weaker P Q g None h = tt
IfSome-weaker P Q g (Some p) h = g p h

-- no part is at fault, and what ends the fields isn't
each_from : (inside : ℕ → List ℕ → Option WireFault) (Is : ℕ → List ℕ → Type 0) → ((number : ℕ) (part : List ℕ) → inside number part ≡ None → Is number part) → (fs : List WireField) (end : Option WireFault) → first_in inside fs end ≡ None → (end ≡ None) × AllByRecursion (λ f. IfSome (bytes_in f.value) (Is f.number)) fs
each_from inside Is g [] end e = (e, tt)
each_from inside Is g (f ∷ fs) end e =
    let here = part_from inside f.number (bytes_in f.value) (none_first (option_and_then (inside f.number) (bytes_in f.value)) (first_in inside fs end) e) in
    let rest = each_from inside Is g fs end (none_second (option_and_then (inside f.number) (bytes_in f.value)) (first_in inside fs end) e) in
    (rest.0, (IfSome-weaker (λ p. inside f.number p ≡ None) (Is f.number) (g f.number) (bytes_in f.value) here, rest.1))

each_to : (inside : ℕ → List ℕ → Option WireFault) (Is : ℕ → List ℕ → Type 0) → ((number : ℕ) (part : List ℕ) → Is number part → inside number part ≡ None) → (fs : List WireField) (end : Option WireFault) → end ≡ None → AllByRecursion (λ f. IfSome (bytes_in f.value) (Is f.number)) fs → first_in inside fs end ≡ None
each_to inside Is g [] end e h = e
each_to inside Is g (f ∷ fs) end e h =
    let here = part_to inside f.number (bytes_in f.value) (IfSome-weaker (Is f.number) (λ p. inside f.number p ≡ None) (g f.number) (bytes_in f.value) h.0) in
    both_none (option_and_then (inside f.number) (bytes_in f.value)) (first_in inside fs end) here (each_to inside Is g fs end e h.1)

-- ---- a message that holds plain ones

plain_from : (held number : ℕ) (part : List ℕ) → in_plain held number part ≡ None → number ≡ held → IsList part
plain_from held number part e same = let test : eqb number held ≡ true = eq-eqb number held same in rw test at e

plain_to : (held number : ℕ) (part : List ℕ) → (number ≡ held → IsList part) → in_plain held number part ≡ None
plain_to held number part h =
    elim (cases_eq number held) [
      | inl same ↦ let test : eqb number held ≡ true = eq-eqb number held same in rw test (h same)
      | inr other ↦ let test : eqb number held ≡ false = ne_eqb number held other in rw test refl
    ]

holds_from : (held : ℕ) (message : List ℕ) → wire_fault_by (in_plain held) message ≡ None → HoldsLists held message
holds_from held message e = each_from (in_plain held) (λ number part. number ≡ held → IsList part) (plain_from held) (fields_of message).items (fields_of message).fault e

holds_to : (held : ℕ) (message : List ℕ) → HoldsLists held message → wire_fault_by (in_plain held) message ≡ None
holds_to held message h = each_to (in_plain held) (λ number part. number ≡ held → IsList part) (plain_to held) (fields_of message).items (fields_of message).fault h.0 h.1

-- ---- an event

known_from : (number : ℕ) (part : List ℕ) → in_event number part ≡ None → IsKnownList number part
known_from number part e = (
  λ same. subst (λ (n : ℕ). in_event n part ≡ None → HoldsLists 2 part) (sym same) (holds_from 2 part) e,
  λ same. subst (λ (n : ℕ). in_event n part ≡ None → HoldsLists 2 part) (sym same) (holds_from 2 part) e,
  λ same. subst (λ (n : ℕ). in_event n part ≡ None → HoldsLists 1 part) (sym same) (holds_from 1 part) e,
)

known_to : (number : ℕ) (part : List ℕ) → IsKnownList number part → in_event number part ≡ None
known_to number part h =
    elim (cases_eq number 5) [
      | inl same ↦ subst (λ (n : ℕ). in_event n part ≡ None) (sym same) (holds_to 2 part (h.0 same))
      | inr not5 ↦ elim (cases_eq number 6) [
        | inl same ↦ subst (λ (n : ℕ). in_event n part ≡ None) (sym same) (holds_to 2 part (h.1 same))
        | inr not6 ↦ elim (cases_eq number 7) [
          | inl same ↦ subst (λ (n : ℕ). in_event n part ≡ None) (sym same) (holds_to 1 part (h.2 same))
          | inr not7 ↦
              let test5 : eqb number 5 ≡ false = ne_eqb number 5 not5 in
              let test6 : eqb number 6 ≡ false = ne_eqb number 6 not6 in
              let test7 : eqb number 7 ≡ false = ne_eqb number 7 not7 in
              rw (test5, test6, test7) refl
        ]
      ]
    ]

pub lists_from : (event : List ℕ) → event_wire_fault event ≡ None → AreLists event
lists_from event e = each_from in_event IsKnownList known_from (fields_of event).items (fields_of event).fault e

pub lists_to : (event : List ℕ) → AreLists event → event_wire_fault event ≡ None
lists_to event h = each_to in_event IsKnownList known_to (fields_of event).items (fields_of event).fault h.0 h.1
