-- What is answered of a judged message is what stands in it, and what stands there is answered.
use Rattle.std.proofs.Common.{◌≡◌, ℕ, Bool, true, false, List, Option, Some, None, Result, Ok, Err, refl, sym, ap, subst, ◌∙◌}
use Rattle.std.specs.Prelude.{not, option_map, IfOk, IfErr}
use Rattle.list_laws.specs.Outcome.{◌>>=◌, unless, refused_if}
use Rattle.proto_wire.specs.declared.fault.WireFault.{WireFault}
use Rattle.row_view.specs.declared.fault.RowFault.{RowFault}
use Rattle.vevent.specs.declared.fault.EventFault.{EventFault}
use Rattle.vevent.specs.declared.fault.EventFault.TheVariants.{Wire, RepeatedMessage, BadType, NotUtf8, PartialRow, Row}
use Rattle.vevent.specs.Judging.{Conditions, IsValue, IsAtFault, value_by}

-- the conditions, as they are judged
abbrev judged : {A : Type 0} → Option WireFault → Bool → Bool → Option RowFault → A → Result A EventFault
judged wire repeats texts rows value =
    unless (option_map Wire wire) >>= λ _.
    refused_if repeats RepeatedMessage >>= λ _.
    refused_if (not texts) NotUtf8 >>= λ _.
    unless (option_map Row rows) >>= λ _.
    Ok value

-- what is answered stands in the message
abbrev Stands : {A : Type 0} → Conditions → (List ℕ → A) → List ℕ → Result A EventFault → Type 0
Stands c meaning message (Ok value) = IsValue c meaning message value
Stands c meaning message (Err fault) = IsAtFault c message fault

stand : {A : Type 0} (c : Conditions) (meaning : List ℕ → A) (message : List ℕ) (wire : Option WireFault) (repeats texts : Bool) (rows : Option RowFault)
    → c.wire message ≡ wire → c.repeats message ≡ repeats → c.texts message ≡ texts → c.rows message ≡ rows → Stands c meaning message (judged wire repeats texts rows (meaning message))
stand c meaning message (Some f) repeats texts rows w r t b = w
stand c meaning message None true texts rows w r t b = (w, r)
stand c meaning message None false false rows w r t b = (w, r, t)
stand c meaning message None false true (Some f) w r t b = (w, r, t, b)
stand c meaning message None false true None w r t b = (record { wire = w; once = r; texts = t; rows = b }, refl)

stands : {A : Type 0} (c : Conditions) (meaning : List ℕ → A) (message : List ℕ) → Stands c meaning message (value_by c meaning message)
stands c meaning message = stand c meaning message (c.wire message) (c.repeats message) (c.texts message) (c.rows message) refl refl refl refl

as_value : {A : Type 0} (c : Conditions) (meaning : List ℕ → A) (message : List ℕ) (r : Result A EventFault) → Stands c meaning message r → IfOk r (λ value. IsValue c meaning message value)
as_value c meaning message (Ok value) h = h
as_value c meaning message (Err fault) h = tt

as_fault : {A : Type 0} (c : Conditions) (meaning : List ℕ → A) (message : List ℕ) (r : Result A EventFault) → Stands c meaning message r → IfErr r (λ fault. IsAtFault c message fault)
as_fault c meaning message (Ok value) h = tt
as_fault c meaning message (Err fault) h = h

pub value_stands : {A : Type 0} (c : Conditions) (meaning : List ℕ → A) (message : List ℕ) (r : Result A EventFault) → r ≡ value_by c meaning message → IfOk r (λ value. IsValue c meaning message value)
value_stands {A} c meaning message r e = as_value c meaning message r (subst (λ (x : Result A EventFault). Stands c meaning message x) (sym e) (stands c meaning message))

pub fault_stands : {A : Type 0} (c : Conditions) (meaning : List ℕ → A) (message : List ℕ) (r : Result A EventFault) → r ≡ value_by c meaning message → IfErr r (λ fault. IsAtFault c message fault)
fault_stands {A} c meaning message r e = as_fault c meaning message r (subst (λ (x : Result A EventFault). Stands c meaning message x) (sym e) (stands c meaning message))

-- ---- what stands there is answered

judged_ok : {A : Type 0} (wire : Option WireFault) (repeats texts : Bool) (rows : Option RowFault) (value : A) → wire ≡ None → repeats ≡ false → texts ≡ true → rows ≡ None → judged wire repeats texts rows value ≡ Ok value
judged_ok wire repeats texts rows value w r t b = rw (w, r, t, b) refl

pub every_value : {A : Type 0} (c : Conditions) (meaning : List ℕ → A) (message : List ℕ) (value : A) → IsValue c meaning message value → value_by c meaning message ≡ Ok value
every_value {A} c meaning message value (h, e) = judged_ok (c.wire message) (c.repeats message) (c.texts message) (c.rows message) (meaning message) h.wire h.once h.texts h.rows ∙ ap (λ (v : A). Ok v) (sym e)

judged_wire : {A : Type 0} (wire : Option WireFault) (repeats texts : Bool) (rows : Option RowFault) (value : A) (f : WireFault) → wire ≡ Some f → judged wire repeats texts rows value ≡ Err (Wire f)
judged_wire wire repeats texts rows value f w = rw w refl

judged_repeats : {A : Type 0} (wire : Option WireFault) (repeats texts : Bool) (rows : Option RowFault) (value : A) → wire ≡ None → repeats ≡ true → judged wire repeats texts rows value ≡ Err RepeatedMessage
judged_repeats wire repeats texts rows value w r = rw (w, r) refl

judged_texts : {A : Type 0} (wire : Option WireFault) (repeats texts : Bool) (rows : Option RowFault) (value : A) → wire ≡ None → repeats ≡ false → texts ≡ false → judged wire repeats texts rows value ≡ Err NotUtf8
judged_texts wire repeats texts rows value w r t = rw (w, r, t) refl

judged_rows : {A : Type 0} (wire : Option WireFault) (repeats texts : Bool) (rows : Option RowFault) (value : A) (f : RowFault) → wire ≡ None → repeats ≡ false → texts ≡ true → rows ≡ Some f → judged wire repeats texts rows value ≡ Err (Row f)
judged_rows wire repeats texts rows value f w r t b = rw (w, r, t, b) refl

pub every_fault : {A : Type 0} (c : Conditions) (meaning : List ℕ → A) (message : List ℕ) (fault : EventFault) → IsAtFault c message fault → value_by c meaning message ≡ Err fault
every_fault c meaning message (Wire f) h = judged_wire (c.wire message) (c.repeats message) (c.texts message) (c.rows message) (meaning message) f h
every_fault c meaning message RepeatedMessage h = judged_repeats (c.wire message) (c.repeats message) (c.texts message) (c.rows message) (meaning message) h.0 h.1
every_fault c meaning message (BadType n) h = absurd h
every_fault c meaning message NotUtf8 h = judged_texts (c.wire message) (c.repeats message) (c.texts message) (c.rows message) (meaning message) h.0 h.1 h.2
every_fault c meaning message PartialRow h = absurd h
every_fault c meaning message (Row f) h = judged_rows (c.wire message) (c.repeats message) (c.texts message) (c.rows message) (meaning message) f h.0 h.1 h.2 h.3
