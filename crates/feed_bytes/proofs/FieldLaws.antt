-- The FIELDs that are kept as their bytes are those in force.
use Rattle.std.proofs.Common.{◌≡◌, ℕ, List, [], ◌∷◌, ◌++◌, map, reverse, Bool, true, false, cond, Result, Ok, refl, sym, ap, ◌∙◌}
use Rattle.std.proofs.lemmas.List.{append-nil, map-append}
use Rattle.std.proofs.lemmas.List.Elements.{filter-append}
use mathlib.Core.List.{reverse-cons}
use Rattle.std.specs.List.{AllByRecursion, filter}
use Rattle.list_laws.proofs.Fronts.{All-append}
use Rattle.vevent.specs.declared.fault.EventFault.{EventFault}
use Rattle.vevent.specs.EventValue.{EventValue, Field}
use Rattle.vevent.specs.Event.{event_at}
use Rattle.source_feed.specs.PastEvents.{PastEvents}
use Rattle.source_feed.specs.SourceValue.{SourceValue, table_in_source}
use Rattle.event_laws.specs.InForce.{is_of_other, in_force}
use Rattle.feed_bytes.specs.FieldBytes.{FieldBytesValue, IsNamed, AreInForce}
use Rattle.feed_bytes.specs.Private.FieldsBehind.{named_by, is_of_another, behind_named}

abbrev Read : Type 0
Read = Result EventValue EventFault

-- ---- lists

filter-reverse : {X : Type 0} (p : X → Bool) (xs : List X) → filter p (reverse xs) ≡ reverse (filter p xs)
filter-reverse p [] = refl
filter-reverse {X} p (x ∷ xs) =
    ap (filter p) (reverse-cons x xs) ∙ filter-append p (reverse xs) (x ∷ []) ∙ ap (λ (ys : List X). ys ++ filter p (x ∷ [])) (filter-reverse p xs) ∙ by (p x)
  where
    by : (b : Bool) → reverse (filter p xs) ++ cond b (x ∷ []) [] ≡ reverse (cond b (x ∷ filter p xs) (filter p xs))
    by true = sym (reverse-cons x (filter p xs))
    by false = append-nil (reverse (filter p xs))

all-filter : {X : Type 0} (P : X → Type 0) (p : X → Bool) (xs : List X) → AllByRecursion P xs → AllByRecursion P (filter p xs)
all-filter P p [] h = h
all-filter P p (x ∷ xs) h =
    elim (p x) as (λ b. AllByRecursion P (cond b (x ∷ filter p xs) (filter p xs))) [ true ↦ (h.0, all-filter P p xs h.1) | false ↦ all-filter P p xs h.1 ]

-- ---- one event

abbrev read_of : FieldBytesValue → Read
read_of field = event_at field.bytes

abbrev good : EventValue → Read
good event = Ok event

filtered : (source : SourceValue) (table : List ℕ) (fields : List FieldBytesValue) (events : List EventValue) → AllByRecursion IsNamed fields → map read_of fields ≡ map good events
    → map read_of (filter (is_of_another source table) fields) ≡ map good (filter (is_of_other source table) events)
filtered source table [] [] n e = refl
filtered source table [] (v ∷ events) n e = cc
filtered source table (f ∷ fields) [] n e = cc
filtered source table (f ∷ fields) (v ∷ events) n e =
    let here : read_of f ≡ good v = cc in
    let others : map read_of fields ≡ map good events = cc in
    let both : good v ≡ good (Field f.name n.0.0) = sym here ∙ n.0.1 in
    let is : v ≡ Field f.name n.0.0 = cc in
    by here (filtered source table fields events n.1 others) (is_of_another source table f)
    ∙ sym (ap (λ (b : Bool). map good (cond b (v ∷ filter (is_of_other source table) events) (filter (is_of_other source table) events))) (ap (is_of_other source table) is))
  where
    by : read_of f ≡ good v → map read_of (filter (is_of_another source table) fields) ≡ map good (filter (is_of_other source table) events)
        → (b : Bool) → map read_of (cond b (f ∷ filter (is_of_another source table) fields) (filter (is_of_another source table) fields))
        ≡ map good (cond b (v ∷ filter (is_of_other source table) events) (filter (is_of_other source table) events))
    by here rest true = ap (λ (r : Read). r ∷ map read_of (filter (is_of_another source table) fields)) here ∙ ap (λ (rs : List Read). good v ∷ rs) rest
    by here rest false = rest

-- behind one event more, of these bytes
pub behind_one : (source : SourceValue) (history : PastEvents) (fields : List FieldBytesValue) (bytes : List ℕ) (event : EventValue) → event_at bytes ≡ Ok event
    → AreInForce source history fields → AreInForce source (event ∷ history) (behind_named source fields bytes (named_by event))
behind_one source history fields bytes (Field name columns) read are =
    let table : List ℕ = table_in_source source name in
    let past : PastEvents = in_force source history in
    let others : List FieldBytesValue = filter (is_of_another source table) fields in
    let later : List EventValue = filter (is_of_other source table) past in
    let field : FieldBytesValue = record { name = name; bytes = bytes } in
    record {
      named = All-append IsNamed others (field ∷ []) (all-filter IsNamed (is_of_another source table) fields are.named) ((columns, read), tt);
      events = map-append read_of others (field ∷ [])
          ∙ ap (λ (rs : List Read). rs ++ event_at bytes ∷ []) (filtered source table fields (reverse past) are.named are.events ∙ ap (map good) (filter-reverse (is_of_other source table) past))
          ∙ ap (λ (r : Read). map good (reverse later) ++ r ∷ []) read
          ∙ sym (map-append good (reverse later) (Field name columns ∷ []))
          ∙ ap (map good) (sym (reverse-cons (Field name columns) later));
    }
behind_one source history fields bytes event read are = record { named = are.named; events = are.events }
