-- What is answered is what stands in the bytes, and what stands there is answered.
use Rattle.std.proofs.Common.{◌≡◌, ℕ, Bool, true, false, List, Option, Some, None, Result, Ok, Err, refl, sym, ap, subst, ◌∙◌}
use Rattle.std.specs.Prelude.{not, option_map, ok_or, IfOk, IfErr}
use Rattle.std.specs.List.{list_any}
use Rattle.proto_wire.specs.declared.fault.WireFault.{WireFault}
use Rattle.list_laws.specs.Outcome.{◌>>=◌, Gives, unless, refused_if}
use Rattle.row_view.specs.declared.fault.RowFault.{RowFault}
use Rattle.vevent.specs.declared.event.Event.{Event}
use Rattle.vevent.specs.declared.fault.EventFault.{EventFault}
use Rattle.vevent.specs.declared.fault.EventFault.TheVariants.{Wire, RepeatedMessage, BadType, NotUtf8, PartialRow, Row}
use Rattle.vevent.specs.declared.kind.EventKind.{EventKind}
use Rattle.vevent.specs.EventValue.{EventValue}
use Rattle.vevent.specs.EventView.{event_value}
use Rattle.vevent.specs.Kind.{kind_of}
use Rattle.proto_wire.specs.Parts.{scalar}
use Rattle.vevent.specs.Fault.{event_wire_fault, repeats_a_message, are_texts, row_changes, is_partial, first_row_fault}
use Rattle.vevent.specs.Message.{event_of}
use Rattle.vevent.specs.Event.{accepted_at, event_at}
use Rattle.vevent.proofs.ListLaws.{lists_from, lists_to}
use Rattle.vevent.specs.Standing.{AreLists, StandAlone, HasType, HasTexts, HasWholeRows, IsAccepted, IsEvent, IsRefused}

abbrev Verdict : Type 0
Verdict = Result EventKind EventFault

-- ---- what is answered stands in the bytes

abbrev Stands : List ℕ → Verdict → Type 0
Stands event (Ok kind) = IsAccepted event kind
Stands event (Err fault) = IsRefused event fault

-- what is left to judge, from the last condition to the first
abbrev rows_left : Option RowFault → EventKind → Verdict
rows_left rows kind = unless (option_map Row rows) >>= λ _. Ok kind

abbrev images_left : Bool → Option RowFault → EventKind → Verdict
images_left partial rows kind = refused_if partial PartialRow >>= λ _. rows_left rows kind

abbrev texts_left : Bool → Bool → Option RowFault → EventKind → Verdict
texts_left texts partial rows kind = refused_if (not texts) NotUtf8 >>= λ _. images_left partial rows kind

abbrev type_left : Option EventKind → ℕ → (EventKind → Bool) → Bool → Option RowFault → Verdict
type_left kind number texts partial rows = ok_or kind (BadType number) >>= λ k. texts_left (texts k) partial rows k

abbrev messages_left : Bool → Option EventKind → ℕ → (EventKind → Bool) → Bool → Option RowFault → Verdict
messages_left repeated kind number texts partial rows = refused_if repeated RepeatedMessage >>= λ _. type_left kind number texts partial rows

abbrev judged : Option WireFault → Bool → Option EventKind → ℕ → (EventKind → Bool) → Bool → Option RowFault → Verdict
judged wire repeated kind number texts partial rows = unless (option_map Wire wire) >>= λ _. messages_left repeated kind number texts partial rows

abbrev partial_in : List ℕ → Bool
partial_in event = list_any is_partial (row_changes event)

abbrev rows_in : List ℕ → Option RowFault
rows_in event = first_row_fault (row_changes event)

rows_stand : (event : List ℕ) (kind : EventKind) (rows : Option RowFault) → HasWholeRows event kind → rows_in event ≡ rows → Stands event (rows_left rows kind)
rows_stand event kind None h e = (h, e)
rows_stand event kind (Some f) h e = (kind, h, e)

images_stand : (event : List ℕ) (kind : EventKind) (partial : Bool) → HasTexts event kind → partial_in event ≡ partial → Stands event (images_left partial (rows_in event) kind)
images_stand event kind true h e = (kind, h, e)
images_stand event kind false h e = rows_stand event kind (rows_in event) (h, e) refl

texts_stand : (event : List ℕ) (kind : EventKind) (texts : Bool) → HasType event kind → are_texts kind event ≡ texts → Stands event (texts_left texts (partial_in event) (rows_in event) kind)
texts_stand event kind false h e = (kind, h, e)
texts_stand event kind true h e = images_stand event kind (partial_in event) (h, e) refl

type_stands : (event : List ℕ) (kind : Option EventKind) → StandAlone event → kind_of (scalar 1 event) ≡ kind → Stands event (type_left kind (scalar 1 event) (λ k. are_texts k event) (partial_in event) (rows_in event))
type_stands event None h e = (h, refl, e)
type_stands event (Some kind) h e = texts_stand event kind (are_texts kind event) (h, e) refl

messages_stand : (event : List ℕ) (repeated : Bool) → AreLists event → repeats_a_message event ≡ repeated → Stands event (messages_left repeated (kind_of (scalar 1 event)) (scalar 1 event) (λ k. are_texts k event) (partial_in event) (rows_in event))
messages_stand event true h e = (h, e)
messages_stand event false h e = type_stands event (kind_of (scalar 1 event)) (h, e) refl

abbrev judged_of : List ℕ → Option WireFault → Verdict
judged_of event wire = judged wire (repeats_a_message event) (kind_of (scalar 1 event)) (scalar 1 event) (λ k. are_texts k event) (partial_in event) (rows_in event)

wire_stands : (event : List ℕ) (wire : Option WireFault) → event_wire_fault event ≡ wire → Stands event (judged_of event wire)
wire_stands event (Some f) e = e
wire_stands event None e = messages_stand event (repeats_a_message event) (lists_from event e) refl

accepted_is : (event : List ℕ) → accepted_at event ≡ judged_of event (event_wire_fault event)
unfolding accepted_at
accepted_is event = refl

stands : (event : List ℕ) (verdict : Verdict) → accepted_at event ≡ verdict → Stands event verdict
stands event verdict e = subst (Stands event) (sym (accepted_is event) ∙ e) (wire_stands event (event_wire_fault event) refl)

-- ---- what stands in the bytes is answered

-- the conditions, as equations
judged_ok : (w : Option WireFault) (r : Bool) (k : Option EventKind) (n : ℕ) (t : EventKind → Bool) (p : Bool) (rows : Option RowFault) (kind : EventKind) → w ≡ None → r ≡ false → k ≡ Some kind → t kind ≡ true → p ≡ false → rows ≡ None → judged w r k n t p rows ≡ Ok kind
judged_ok w r k n t p rows kind e1 e2 e3 e4 e5 e6 = rw (e1, e2, e3, e4, e5, e6) refl

is_accepted : (event : List ℕ) (kind : EventKind) → IsAccepted event kind → accepted_at event ≡ Ok kind
is_accepted event kind h = accepted_is event ∙ judged_ok (event_wire_fault event) (repeats_a_message event) (kind_of (scalar 1 event)) (scalar 1 event) (λ k. are_texts k event) (partial_in event) (rows_in event) kind (lists_to event h.0.0.0.0.0) h.0.0.0.0.1 h.0.0.0.1 h.0.0.1 h.0.1 h.1

judged_wire : (w : Option WireFault) (r : Bool) (k : Option EventKind) (n : ℕ) (t : EventKind → Bool) (p : Bool) (rows : Option RowFault) (f : WireFault) → w ≡ Some f → judged w r k n t p rows ≡ Err (Wire f)
judged_wire w r k n t p rows f e1 = rw e1 refl

judged_repeated : (w : Option WireFault) (r : Bool) (k : Option EventKind) (n : ℕ) (t : EventKind → Bool) (p : Bool) (rows : Option RowFault) → w ≡ None → r ≡ true → judged w r k n t p rows ≡ Err RepeatedMessage
judged_repeated w r k n t p rows e1 e2 = rw (e1, e2) refl

judged_type : (w : Option WireFault) (r : Bool) (k : Option EventKind) (n : ℕ) (t : EventKind → Bool) (p : Bool) (rows : Option RowFault) → w ≡ None → r ≡ false → k ≡ None → judged w r k n t p rows ≡ Err (BadType n)
judged_type w r k n t p rows e1 e2 e3 = rw (e1, e2, e3) refl

judged_texts : (w : Option WireFault) (r : Bool) (k : Option EventKind) (n : ℕ) (t : EventKind → Bool) (p : Bool) (rows : Option RowFault) (kind : EventKind) → w ≡ None → r ≡ false → k ≡ Some kind → t kind ≡ false → judged w r k n t p rows ≡ Err NotUtf8
judged_texts w r k n t p rows kind e1 e2 e3 e4 = rw (e1, e2, e3, e4) refl

judged_partial : (w : Option WireFault) (r : Bool) (k : Option EventKind) (n : ℕ) (t : EventKind → Bool) (p : Bool) (rows : Option RowFault) (kind : EventKind) → w ≡ None → r ≡ false → k ≡ Some kind → t kind ≡ true → p ≡ true → judged w r k n t p rows ≡ Err PartialRow
judged_partial w r k n t p rows kind e1 e2 e3 e4 e5 = rw (e1, e2, e3, e4, e5) refl

judged_row : (w : Option WireFault) (r : Bool) (k : Option EventKind) (n : ℕ) (t : EventKind → Bool) (p : Bool) (rows : Option RowFault) (kind : EventKind) (f : RowFault) → w ≡ None → r ≡ false → k ≡ Some kind → t kind ≡ true → p ≡ false → rows ≡ Some f → judged w r k n t p rows ≡ Err (Row f)
judged_row w r k n t p rows kind f e1 e2 e3 e4 e5 e6 = rw (e1, e2, e3, e4, e5, e6) refl

is_refused : (event : List ℕ) (fault : EventFault) → IsRefused event fault → judged_of event (event_wire_fault event) ≡ Err fault
is_refused event (Wire f) h = judged_wire (event_wire_fault event) (repeats_a_message event) (kind_of (scalar 1 event)) (scalar 1 event) (λ k. are_texts k event) (partial_in event) (rows_in event) f h
is_refused event RepeatedMessage h = judged_repeated (event_wire_fault event) (repeats_a_message event) (kind_of (scalar 1 event)) (scalar 1 event) (λ k. are_texts k event) (partial_in event) (rows_in event) (lists_to event h.0) h.1
is_refused event (BadType n) h =
    let none : kind_of (scalar 1 event) ≡ None = ap kind_of h.1 ∙ h.2 in
    judged_type (event_wire_fault event) (repeats_a_message event) (kind_of (scalar 1 event)) (scalar 1 event) (λ k. are_texts k event) (partial_in event) (rows_in event) (lists_to event h.0.0) h.0.1 none ∙ ap (λ (m : ℕ). Err (BadType m)) h.1
is_refused event NotUtf8 h = judged_texts (event_wire_fault event) (repeats_a_message event) (kind_of (scalar 1 event)) (scalar 1 event) (λ k. are_texts k event) (partial_in event) (rows_in event) h.0 (lists_to event h.1.0.0) h.1.0.1 h.1.1 h.2
is_refused event PartialRow h = judged_partial (event_wire_fault event) (repeats_a_message event) (kind_of (scalar 1 event)) (scalar 1 event) (λ k. are_texts k event) (partial_in event) (rows_in event) h.0 (lists_to event h.1.0.0.0) h.1.0.0.1 h.1.0.1 h.1.1 h.2
is_refused event (Row f) h = judged_row (event_wire_fault event) (repeats_a_message event) (kind_of (scalar 1 event)) (scalar 1 event) (λ k. are_texts k event) (partial_in event) (rows_in event) h.0 f (lists_to event h.1.0.0.0.0) h.1.0.0.0.1 h.1.0.0.1 h.1.0.1 h.1.1 h.2

-- ---- the same of the event

abbrev Answer : Type 0
Answer = Result EventValue EventFault

abbrev answered : List ℕ → Verdict → Answer
answered event verdict = verdict >>= λ kind. Ok (event_of kind event)

event_at_is : (event : List ℕ) → event_at event ≡ answered event (accepted_at event)
unfolding event_at
event_at_is event = refl

abbrev done : EventValue → Answer
done value = Ok value

ok_is : (x y : EventValue) → done x ≡ done y → x ≡ y
ok_is x y e = cc

is_event_by : (event : List ℕ) (value : EventValue) (verdict : Verdict) → accepted_at event ≡ verdict → answered event verdict ≡ Ok value → IsEvent event value
is_event_by event value (Ok kind) e h = (kind, stands event (Ok kind) e, sym (ok_is (event_of kind event) value h))
is_event_by event value (Err f) e h = absurd cc

is_refused_by : (event : List ℕ) (fault : EventFault) (verdict : Verdict) → accepted_at event ≡ verdict → answered event verdict ≡ Err fault → IsRefused event fault
is_refused_by event fault (Ok kind) e h = absurd cc
is_refused_by event fault (Err f) e h = let same : f ≡ fault = cc in subst (IsRefused event) same (stands event (Err f) e)

pub event_from : (event : List ℕ) (value : EventValue) → event_at event ≡ Ok value → IsEvent event value
event_from event value e = is_event_by event value (accepted_at event) refl (sym (event_at_is event) ∙ e)

pub refusal_from : (event : List ℕ) (fault : EventFault) → event_at event ≡ Err fault → IsRefused event fault
refusal_from event fault e = is_refused_by event fault (accepted_at event) refl (sym (event_at_is event) ∙ e)

pub event_stands : (r : Result Event EventFault) (event : List ℕ) → Gives event_value r (event_at event) → IfOk r (λ x. IsEvent event (event_value x))
event_stands (Ok x) event h = event_from event (event_value x) h
event_stands (Err f) event h = tt

pub refusal_stands : (r : Result Event EventFault) (event : List ℕ) → Gives event_value r (event_at event) → IfErr r (λ f. IsRefused event f)
refusal_stands (Ok x) event h = tt
refusal_stands (Err f) event h = refusal_from event f h

pub every_event : (event : List ℕ) (value : EventValue) → IsEvent event value → event_at event ≡ Ok value
every_event event value h = event_at_is event ∙ ap (answered event) (is_accepted event h.0 h.1) ∙ ap (λ (v : EventValue). Ok v) (sym h.2)

pub every_refusal : (event : List ℕ) (fault : EventFault) → IsRefused event fault → event_at event ≡ Err fault
every_refusal event fault h = event_at_is event ∙ ap (answered event) (accepted_is event ∙ is_refused event fault h)
