-- The event at the front: each answer is right, and each right answer is given.
use Rattle.std.proofs.Common.{◌≡◌, ℕ, ◌+◌, ◌<◌, ◌≤◌, Bool, true, false, ltb, List, ◌++◌, length, take, drop, length-append, Result, Ok, Err, refl, sym, ap, ◌∙◌, inl, inr, arith}
use Rattle.std.proofs.lemmas.Bool.{cases_lt, cases_Bool, lt-ltb, le-ltb, eqb-true, eqb-false, eq-eqb, ne_eqb}
use Rattle.std.proofs.lemmas.List.{take-append-drop, length-take-le, take_at, drop_at, length-drop}
use Rattle.item_readers.proofs.ReadingLaws.{IsReader}
use Rattle.log_events.specs.declared.fault.EventFault.{EventFault}
use Rattle.log_events.specs.declared.fault.EventFault.TheVariants.{Cut, TooSmall, WrongSum}
use Rattle.log_events.specs.Number.{number}
use Rattle.log_events.specs.Event.{LogEvent, tail_size, event_in, SumHolds, sum_holds, IsEvent, NoEvent, event_of_size, event_at}
use Rattle.log_events.proofs.NumberLaws.{number-take, number-front}

-- ---- the check

sum_true : (checked : Bool) (bytes : List ℕ) → sum_holds checked bytes ≡ true → SumHolds checked bytes
sum_true false bytes e = tt
sum_true true bytes e = eqb-true _ _ e

sum_false : (checked : Bool) (bytes : List ℕ) → sum_holds checked bytes ≡ false → ¬ SumHolds checked bytes
sum_false false bytes e = cc
sum_false true bytes e = eqb-false _ _ e

holds_sum : (checked : Bool) (bytes : List ℕ) → SumHolds checked bytes → sum_holds checked bytes ≡ true
holds_sum false bytes h = refl
holds_sum true bytes h = eq-eqb _ _ h

not_sum : (checked : Bool) (bytes : List ℕ) → ¬ SumHolds checked bytes → sum_holds checked bytes ≡ false
not_sum false bytes h = absurd (h tt)
not_sum true bytes h = ne_eqb _ _ h

-- ---- by the size

event-head : (checked : Bool) (bytes : List ℕ) → length bytes < 19 → event_at checked bytes ≡ Err Cut
unfolding event_at
event-head checked bytes lt =
    let test : ltb (length bytes) 19 ≡ true = lt-ltb (length bytes) 19 lt in
    rw test refl

event-behind : (checked : Bool) (bytes : List ℕ) → 19 ≤ length bytes → event_at checked bytes ≡ event_of_size checked (number 9 4 bytes) bytes
unfolding event_at
event-behind checked bytes le =
    let test : ltb (length bytes) 19 ≡ false = le-ltb (length bytes) 19 le in
    rw test refl

size-small : (checked : Bool) (size : ℕ) (bytes : List ℕ) → size < 19 + tail_size checked → event_of_size checked size bytes ≡ Err TooSmall
size-small checked size bytes lt =
    let test : ltb size (19 + tail_size checked) ≡ true = lt-ltb _ _ lt in
    rw test refl

size-cut : (checked : Bool) (size : ℕ) (bytes : List ℕ) → 19 + tail_size checked ≤ size → length bytes < size → event_of_size checked size bytes ≡ Err Cut
size-cut checked size bytes le lt =
    let test : ltb size (19 + tail_size checked) ≡ false = le-ltb _ _ le in
    let cut : ltb (length bytes) size ≡ true = lt-ltb _ _ lt in
    rw (test, cut) refl

size-wrong : (checked : Bool) (size : ℕ) (bytes : List ℕ) → 19 + tail_size checked ≤ size → size ≤ length bytes → sum_holds checked (take size bytes) ≡ false → event_of_size checked size bytes ≡ Err WrongSum
size-wrong checked size bytes le fits wrong =
    let test : ltb size (19 + tail_size checked) ≡ false = le-ltb _ _ le in
    let cut : ltb (length bytes) size ≡ false = le-ltb _ _ fits in
    rw (test, cut, wrong) refl

size-whole : (checked : Bool) (size : ℕ) (bytes : List ℕ) → 19 + tail_size checked ≤ size → size ≤ length bytes → sum_holds checked (take size bytes) ≡ true
    → event_of_size checked size bytes ≡ Ok (event_in (tail_size checked) (take size bytes), drop size bytes)
size-whole checked size bytes le fits holds =
    let test : ltb size (19 + tail_size checked) ≡ false = le-ltb _ _ le in
    let cut : ltb (length bytes) size ≡ false = le-ltb _ _ fits in
    rw (test, cut, holds) refl

-- ---- the courses of the tests, and what each tells

data Course (checked : Bool) (bytes : List ℕ) : Type 0 where
  in_head : length bytes < 19 → Course checked bytes
  too_small : 19 ≤ length bytes → number 9 4 bytes < 19 + tail_size checked → Course checked bytes
  in_body : 19 ≤ length bytes → 19 + tail_size checked ≤ number 9 4 bytes → length bytes < number 9 4 bytes → Course checked bytes
  wrong : 19 + tail_size checked ≤ number 9 4 bytes → number 9 4 bytes ≤ length bytes → sum_holds checked (take (number 9 4 bytes) bytes) ≡ false → Course checked bytes
  whole : 19 + tail_size checked ≤ number 9 4 bytes → number 9 4 bytes ≤ length bytes → sum_holds checked (take (number 9 4 bytes) bytes) ≡ true → Course checked bytes

course : (checked : Bool) (bytes : List ℕ) → Course checked bytes
course checked bytes =
    elim (cases_lt (length bytes) 19) [
      | inl lt ↦ in_head lt
      | inr le ↦ elim (cases_lt (number 9 4 bytes) (19 + tail_size checked)) [
        | inl small ↦ too_small le small
        | inr enough ↦ elim (cases_lt (length bytes) (number 9 4 bytes)) [
          | inl cut ↦ in_body le enough cut
          | inr fits ↦ elim (cases_Bool (sum_holds checked (take (number 9 4 bytes) bytes))) [
            | inl holds ↦ whole enough fits holds
            | inr fails ↦ wrong enough fits fails
          ]
        ]
      ]
    ]

answer : (checked : Bool) (bytes : List ℕ) → Course checked bytes → Result (LogEvent × List ℕ) EventFault
answer checked bytes (in_head lt) = Err Cut
answer checked bytes (too_small le small) = Err TooSmall
answer checked bytes (in_body le enough cut) = Err Cut
answer checked bytes (wrong enough fits fails) = Err WrongSum
answer checked bytes (whole enough fits holds) = Ok (event_in (tail_size checked) (take (number 9 4 bytes) bytes), drop (number 9 4 bytes) bytes)

answers : (checked : Bool) (bytes : List ℕ) (k : Course checked bytes) → event_at checked bytes ≡ answer checked bytes k
unfolding answer
answers checked bytes (in_head lt) = event-head checked bytes lt
answers checked bytes (too_small le small) = event-behind checked bytes le ∙ size-small checked _ bytes small
answers checked bytes (in_body le enough cut) = event-behind checked bytes le ∙ size-cut checked _ bytes enough cut
answers checked bytes (wrong enough fits fails) = event-behind checked bytes (omega arith) ∙ size-wrong checked _ bytes enough fits fails
answers checked bytes (whole enough fits holds) = event-behind checked bytes (omega arith) ∙ size-whole checked _ bytes enough fits holds

-- ---- the laws of a reader

is_event : (checked : Bool) (n : ℕ) (bytes : List ℕ) → n ≡ number 9 4 bytes → 19 + tail_size checked ≤ n → n ≤ length bytes → sum_holds checked (take n bytes) ≡ true
    → IsEvent checked (take n bytes) (event_in (tail_size checked) (take n bytes))
is_event checked n bytes e enough fits holds =
    let long : length (take n bytes) ≡ n = length-take-le n bytes fits in
    record {
      long = omega arith;
      size = number-take 9 4 n bytes (omega arith) ∙ sym e ∙ sym long;
      sum = sum_true checked (take n bytes) holds;
      is = refl;
    }

shorter_by : (checked : Bool) (bytes : List ℕ) (x : LogEvent × List ℕ) (k : Course checked bytes) → answer checked bytes k ≡ Ok x → length x.1 < length bytes
unfolding answer
shorter_by checked bytes x (in_head lt) e = cc
shorter_by checked bytes x (too_small le small) e = cc
shorter_by checked bytes x (in_body le enough cut) e = cc
shorter_by checked bytes x (wrong enough fits fails) e = cc
shorter_by checked bytes x (whole enough fits holds) e =
    let n : ℕ = number 9 4 bytes in
    let is : x ≡ (event_in (tail_size checked) (take n bytes), drop n bytes) = cc in
    rw is (omega (arith, length-drop n bytes))

found_by : (checked : Bool) (bytes : List ℕ) (x : LogEvent × List ℕ) (k : Course checked bytes) → answer checked bytes k ≡ Ok x → (front : List ℕ) × (bytes ≡ front ++ x.1) × IsEvent checked front x.0
unfolding answer
found_by checked bytes x (in_head lt) e = cc
found_by checked bytes x (too_small le small) e = cc
found_by checked bytes x (in_body le enough cut) e = cc
found_by checked bytes x (wrong enough fits fails) e = cc
found_by checked bytes x (whole enough fits holds) e =
    let n : ℕ = number 9 4 bytes in
    let is : x ≡ (event_in (tail_size checked) (take n bytes), drop n bytes) = cc in
    rw is (take n bytes, sym (take-append-drop n bytes), is_event checked n bytes refl enough fits holds)

refused_by : (checked : Bool) (bytes : List ℕ) (f : EventFault) (k : Course checked bytes) → answer checked bytes k ≡ Err f → NoEvent checked bytes f
unfolding answer
refused_by checked bytes f (in_head lt) e = inl (cc, lt)
refused_by checked bytes f (too_small le small) e = inr (inl (cc, le, small))
refused_by checked bytes f (in_body le enough cut) e = inr (inr (inl (cc, le, enough, cut)))
refused_by checked bytes f (wrong enough fits fails) e = inr (inr (inr (cc, enough, fits, sum_false checked _ fails)))
refused_by checked bytes f (whole enough fits holds) e = cc

refuses : (checked : Bool) (bytes : List ℕ) (f : EventFault) → NoEvent checked bytes f → event_at checked bytes ≡ Err f
refuses checked bytes f (inl h) = rw (h.0) (event-head checked bytes h.1)
refuses checked bytes f (inr (inl h)) = rw (h.0) (event-behind checked bytes h.1 ∙ size-small checked _ bytes h.2)
refuses checked bytes f (inr (inr (inl h))) = rw (h.0) (event-behind checked bytes h.1 ∙ size-cut checked _ bytes h.2 h.3)
refuses checked bytes f (inr (inr (inr h))) =
    let enough : 19 + tail_size checked ≤ number 9 4 bytes = h.1 in
    let fits : number 9 4 bytes ≤ length bytes = h.2 in
    rw (h.0) (event-behind checked bytes (omega arith) ∙ size-wrong checked _ bytes enough fits (not_sum checked _ h.3))

finds : (checked : Bool) (front rest : List ℕ) (x : LogEvent) → IsEvent checked front x → event_at checked (front ++ rest) ≡ Ok (x, rest)
finds checked front rest x h =
    let n : ℕ = length front in
    let long : 19 + tail_size checked ≤ n = h.long in
    let all : length (front ++ rest) ≡ n + length rest = length-append front rest in
    let size : number 9 4 (front ++ rest) ≡ n = number-front 9 4 front rest (omega arith) ∙ h.size in
    let head : take n (front ++ rest) ≡ front = take_at front rest n refl in
    let tail : drop n (front ++ rest) ≡ rest = drop_at front rest n refl in
    let holds : sum_holds checked (take n (front ++ rest)) ≡ true = ap (sum_holds checked) head ∙ holds_sum checked front h.sum in
    event-behind checked (front ++ rest) (omega arith)
    ∙ ap (λ (k : ℕ). event_of_size checked k (front ++ rest)) size
    ∙ size-whole checked n (front ++ rest) long (omega arith) holds
    ∙ ap (λ (xs : List ℕ). Ok (event_in (tail_size checked) xs, drop n (front ++ rest))) head
    ∙ ap (λ (xs : List ℕ). Ok (event_in (tail_size checked) front, xs)) tail
    ∙ ap (λ (e : LogEvent). Ok (e, rest)) (sym h.is)

pub event_reader : (checked : Bool) → IsReader (IsEvent checked) (NoEvent checked) (event_at checked)
event_reader checked = record {
  takes = record { shorter = λ bytes x e. shorter_by checked bytes x (course checked bytes) (sym (answers checked bytes (course checked bytes)) ∙ e) };
  found = λ bytes x e. found_by checked bytes x (course checked bytes) (sym (answers checked bytes (course checked bytes)) ∙ e);
  finds = finds checked;
  refused = λ bytes f e. refused_by checked bytes f (course checked bytes) (sym (answers checked bytes (course checked bytes)) ∙ e);
  refuses = refuses checked;
}

-- the bytes of the event at the front, and those after it, are all
pub event_size : (checked : Bool) (bytes : List ℕ) (x : LogEvent × List ℕ) → event_at checked bytes ≡ Ok x → length bytes ≡ x.0.size + length x.1
event_size checked bytes x e =
    let one = (event_reader checked).found bytes x e in
    let size : x.0.size ≡ length one.0 = ap (λ (e : LogEvent). e.size) one.2.is ∙ one.2.size in
    ap length one.1 ∙ length-append one.0 x.1 ∙ ap (λ (k : ℕ). k + length x.1) (sym size)
