-- A log's first bytes are its first events.
use Rattle.std.proofs.Common.{◌≡◌, ℕ, zero, suc, ◌+◌, ◌-◌, ◌<◌, ◌≤◌, Bool, List, [], ◌∷◌, ◌++◌, length, length-append, append_assoc, take, drop, Option, None, Result, Ok, refl, sym, ap, ◌∙◌, arith}
use Rattle.std.proofs.lemmas.List.{take-append-drop, take_all, take_at, length-take-le}
use Rattle.std.proofs.Math.Seq.{take-append-add, drop-append-add}
use Rattle.item_readers.specs.Reading.{Reading, Spells}
use Rattle.item_readers.proofs.ReadingLaws.{spells-reading}
use Rattle.log_events.specs.declared.fault.EventFault.{EventFault}
use Rattle.log_events.specs.declared.fault.LogFault.{LogFault}
use Rattle.log_events.specs.Number.{little, number}
use Rattle.log_events.specs.Event.{LogEvent, IsEvent, NoEvent, event_at, events_of}
use Rattle.log_events.specs.Log.{LogValue, magic, IsLog, log_at}
use Rattle.log_events.specs.Cuts.{size_of_events, byte_behind, cut_behind, AreCut, CutsAreLogs, IsCutBehind, LogsAreCut, NextIsCut}
use Rattle.log_events.proofs.NumberLaws.{number-front}
use Rattle.log_events.proofs.EventLaws.{event_reader}
use Rattle.log_events.proofs.LogLaws.{log_answers, log_only}

-- ---- the events behind a format description

abbrev Are : Bool → List ℕ → List LogEvent → Option EventFault → Type 0
Are checked bytes items fault = Spells (IsEvent checked) (NoEvent checked) bytes items fault

-- a number behind other bytes
number-behind : (place size : ℕ) (front rest bytes : List ℕ) → bytes ≡ front ++ rest → number (length front + place) size bytes ≡ number place size rest
number-behind place size front rest bytes parts = ap (number (length front + place) size) parts ∙ ap (λ (xs : List ℕ). little (take size xs)) (drop-append-add front rest place)

-- an event has as many bytes as it says
event_long : (checked : Bool) (front : List ℕ) (event : LogEvent) → IsEvent checked front event → event.size ≡ length front
event_long checked front event h = ap (λ (e : LogEvent). e.size) h.is ∙ h.size

-- the first bytes are the first events
record Fronts (checked : Bool) (bytes : List ℕ) (items : List LogEvent) (many : ℕ) : Type 0 where
  pub within : size_of_events (take many items) ≤ length bytes
  pub are : Are checked (take (size_of_events (take many items)) bytes) (take many items) None
  pub next : many < length items → size_of_events (take (many + 1) items) ≡ size_of_events (take many items) + number (size_of_events (take many items) + 9) 4 bytes

fronts : (checked : Bool) (bytes : List ℕ) (items : List LogEvent) (fault : Option EventFault) (many : ℕ) → Are checked bytes items fault → Fronts checked bytes items many
fronts checked bytes [] fault zero h = record { within = omega arith; are = refl; next = λ less. absurd (omega (arith, less)) }
fronts checked bytes [] fault (suc many) h = record { within = omega arith; are = refl; next = λ less. absurd (omega (arith, less)) }
fronts checked bytes (event ∷ items) fault zero (front, rest, parts, is, others) = record {
  within = omega arith;
  are = refl;
  next = λ less. first_size;
}
  where
    first_size : event.size + 0 ≡ 0 + number 9 4 bytes
    first_size =
        let long : 19 ≤ length front = omega (arith, is.long) in
        let size : number 9 4 bytes ≡ length front = ap (number 9 4) parts ∙ number-front 9 4 front rest (omega (arith, long)) ∙ is.size in
        omega (arith, size, event_long checked front event is)
fronts checked bytes (event ∷ items) fault (suc many) (front, rest, parts, is, others) =
    let behind : Fronts checked rest items many = fronts checked rest items fault many others in
    let n : ℕ = size_of_events (take many items) in
    let size : event.size ≡ length front = event_long checked front event is in
    let cut : take (event.size + n) bytes ≡ front ++ take n rest = ap (λ (k : ℕ). take (k + n) bytes) size ∙ ap (take (length front + n)) parts ∙ take-append-add front rest n in
    let all : length bytes ≡ length front + length rest = ap length parts ∙ length-append front rest in
    record {
      within = omega (arith, behind.within);
      are = (front, take n rest, cut, is, behind.are);
      next = λ less.
          let place : event.size + n + 9 ≡ length front + (n + 9) = omega (arith, size) in
          let there : number (event.size + n + 9) 4 bytes ≡ number (n + 9) 4 rest = ap (λ (k : ℕ). number k 4 bytes) place ∙ number-behind (n + 9) 4 front rest bytes parts in
          let more : suc many + 1 ≡ suc (many + 1) = omega arith in
          let sizes : size_of_events (take (suc many + 1) (event ∷ items)) ≡ event.size + size_of_events (take (many + 1) items) = ap (λ (k : ℕ). size_of_events (take k (event ∷ items))) more in
          omega (arith, there, sizes, behind.next (omega (arith, less)));
    }

whole_size : (checked : Bool) (bytes : List ℕ) (items : List LogEvent) → Are checked bytes items None → size_of_events items ≡ length bytes
whole_size checked bytes [] none = sym (ap length none)
whole_size checked bytes (event ∷ items) (front, rest, parts, is, others) =
    let all : length bytes ≡ length front + length rest = ap length parts ∙ length-append front rest in
    omega (arith, all, event_long checked front event is, whole_size checked rest items others)

-- events behind others
behind_events : (checked : Bool) (bytes more : List ℕ) (items others : List LogEvent) (fault : Option EventFault) → Are checked bytes items None → Are checked more others fault → Are checked (bytes ++ more) (items ++ others) fault
behind_events checked bytes more [] others fault none h = let all : bytes ++ more ≡ more = ap (λ (xs : List ℕ). xs ++ more) none in rw all h
behind_events checked bytes more (event ∷ items) others fault (front, rest, parts, is, left) h =
    let all : bytes ++ more ≡ front ++ (rest ++ more) = ap (λ (xs : List ℕ). xs ++ more) parts ∙ append_assoc front rest more in
    (front, rest ++ more, all, is, behind_events checked rest more items others fault left h)

-- ---- the file

is_log : (bytes : List ℕ) (log : LogValue) → log_at bytes ≡ Ok log → IsLog bytes log
is_log bytes log e = let answers = log_answers bytes in rw e at answers

-- where the events behind a format description begin
head_long : (bytes : List ℕ) (log : LogValue) (h : IsLog bytes log) → length bytes - log.left ≡ length (magic ++ h.first)
head_long bytes log h =
    let all : length bytes ≡ length (magic ++ h.first) + length h.rest = ap length h.is ∙ length-append (magic ++ h.first) h.rest in
    omega (arith, all, h.left)

cut_of : (bytes : List ℕ) (log : LogValue) → IsLog bytes log → AreCut bytes log
cut_of bytes log h = record {
  within = λ many. omega (arith, (front many).within, head, all);
  is = λ many.
      let n : ℕ = size_of_events (take many log.events.items) in
      let cut : take (byte_behind bytes log many) bytes ≡ magic ++ (h.first ++ take n h.rest) = ap (λ (k : ℕ). take (k + n) bytes) head ∙ ap (take (length (magic ++ h.first) + n)) h.is ∙ take-append-add (magic ++ h.first) h.rest n in
      log_only (take (byte_behind bytes log many) bytes) (cut_behind log many) (record {
        first = h.first;
        rest = take n h.rest;
        description = h.description;
        checked = h.checked;
        is = cut;
        event = h.event;
        format = h.format;
        checks = h.checks;
        in_use = h.in_use;
        events = (front many).are;
        left = sym (length-take-le n h.rest (front many).within);
      });
  next = λ many less.
      let n : ℕ = size_of_events (take many log.events.items) in
      let place : byte_behind bytes log many + 9 ≡ length (magic ++ h.first) + (n + 9) = omega (arith, head) in
      let there : number (byte_behind bytes log many + 9) 4 bytes ≡ number (n + 9) 4 h.rest = ap (λ (k : ℕ). number k 4 bytes) place ∙ number-behind (n + 9) 4 (magic ++ h.first) h.rest bytes h.is in
      omega (arith, there, (front many).next less);
  whole = λ none.
      let every : size_of_events (take (length log.events.items) log.events.items) ≡ length h.rest =
      ap size_of_events (take_all (length log.events.items) log.events.items (omega arith)) ∙ whole_size h.checked h.rest log.events.items (let events = h.events in rw none at events) in
      omega (arith, every, head, all);
}
  where
    head : length bytes - log.left ≡ length (magic ++ h.first)
    head = head_long bytes log h

    all : length bytes ≡ length (magic ++ h.first) + length h.rest
    all = ap length h.is ∙ length-append (magic ++ h.first) h.rest

    front : (many : ℕ) → Fronts h.checked h.rest log.events.items many
    front many = fronts h.checked h.rest log.events.items log.events.fault many h.events

pub cuts_are : CutsAreLogs
cuts_are bytes log e = cut_of bytes log (is_log bytes log e)

-- ---- and no others

same_log : (log other : LogValue) → ◌≡◌ {A = Result LogValue LogFault} (Ok log) (Ok other) → log ≡ other
same_log log other e = cc

value_is : (log : LogValue) (items : List LogEvent) (left : ℕ) → items ≡ log.events.items → log.events.fault ≡ None → left ≡ log.left
    → log ≡ record { in_use = log.in_use; events = record { items = items; fault = None }; left = left }
value_is log items left e none f = rw (e, f, sym none) refl

-- the whole bytes are a log too
record IsWhole (bytes : List ℕ) (byte : ℕ) (front : LogValue) (h : IsLog (take byte bytes) front) : Type 0 where
  log : LogValue
  is : log_at bytes ≡ Ok log
  others : Reading LogEvent EventFault
  value : log ≡ record { in_use = front.in_use; events = record { items = front.events.items ++ others.items; fault = others.fault }; left = length (h.rest ++ drop byte bytes) }
  bytes_are : bytes ≡ magic ++ (h.first ++ (h.rest ++ drop byte bytes))

whole_of : (bytes : List ℕ) (byte : ℕ) (front : LogValue) → front.events.fault ≡ None → (h : IsLog (take byte bytes) front) → IsWhole bytes byte front h
whole_of bytes byte front none h =
    let more : List ℕ = drop byte bytes in
    let others : Reading LogEvent EventFault = events_of h.checked more in
    let items : List LogEvent = front.events.items in
    let are : Are h.checked h.rest items None = let events = h.events in rw none at events in
    let all : bytes ≡ magic ++ (h.first ++ (h.rest ++ more)) = sym (take-append-drop byte bytes) ∙ ap (λ (xs : List ℕ). xs ++ more) h.is ∙ append_assoc (magic ++ h.first) h.rest more in
    let whole : LogValue = record { in_use = front.in_use; events = record { items = items ++ others.items; fault = others.fault }; left = length (h.rest ++ more) } in
    record {
      log = whole;
      is = log_only bytes whole (record {
        first = h.first;
        rest = h.rest ++ more;
        description = h.description;
        checked = h.checked;
        is = all;
        event = h.event;
        format = h.format;
        checks = h.checks;
        in_use = h.in_use;
        events = behind_events h.checked h.rest more items others.items others.fault are (spells-reading (IsEvent h.checked) (NoEvent h.checked) (event_at h.checked) (event_reader h.checked) more);
        left = refl;
      });
      others = others;
      value = refl;
      bytes_are = all;
    }

cut_there : (bytes : List ℕ) (log front : LogValue) (byte : ℕ) → log_at bytes ≡ Ok log → byte ≤ length bytes → front.events.fault ≡ None → IsLog (take byte bytes) front → IsCutBehind bytes log byte front
cut_there bytes log front byte e within none h =
    let w : IsWhole bytes byte front h = whole_of bytes byte front none h in
    let more : List ℕ = drop byte bytes in
    let others : Reading LogEvent EventFault = w.others in
    let items : List LogEvent = front.events.items in
    let are : Are h.checked h.rest items None = let events = h.events in rw none at events in
    let whole : LogValue = record { in_use = front.in_use; events = record { items = items ++ others.items; fault = others.fault }; left = length (h.rest ++ more) } in
    let is : log ≡ whole = same_log log w.log (sym e ∙ w.is) ∙ w.value in
    let taken : take (length items) (items ++ others.items) ≡ items = take_at items others.items (length items) refl in
    let size : size_of_events (take (length items) (items ++ others.items)) ≡ length h.rest = ap size_of_events taken ∙ whole_size h.checked h.rest items are in
    let head : length (take byte bytes) ≡ length (magic ++ h.first) + length h.rest = ap length h.is ∙ length-append (magic ++ h.first) h.rest in
    let long : length bytes ≡ length (magic ++ h.first) + length (h.rest ++ more) = ap length w.bytes_are ∙ length-append (magic ++ h.first) (h.rest ++ more) in
    let as_many : length (items ++ others.items) ≡ length items + length others.items = length-append items others.items in
    rw is (record {
      many = omega (arith, as_many);
      is = value_is front (take (length items) (items ++ others.items)) (size_of_events (take (length items) (items ++ others.items))) taken none (size ∙ sym h.left);
      stands = omega (arith, size, head, long, length-take-le byte bytes within);
    })

pub are_cut : LogsAreCut
are_cut bytes log front byte e within f none = cut_there bytes log front byte e within none (is_log (take byte bytes) front f)

-- with one event more
pub next_cut : NextIsCut
next_cut bytes byte next front more within further f none g sound many =
    let w = whole_of bytes byte front none (is_log (take byte bytes) front f) in
    let a : IsCutBehind bytes w.log byte front = are_cut bytes w.log front byte w.is within f none in
    let b : IsCutBehind bytes w.log next more = are_cut bytes w.log more next w.is further g sound in
    let n : ℕ = length front.events.items in
    let last : next ≡ byte_behind bytes w.log (n + 1) = b.stands ∙ ap (byte_behind bytes w.log) many in
    let here : byte ≡ byte_behind bytes w.log n = a.stands in
    let goes : byte_behind bytes w.log (n + 1) ≡ byte_behind bytes w.log n + number (byte_behind bytes w.log n + 9) 4 bytes = (cuts_are bytes w.log w.is).next n (omega (arith, b.many, many)) in
    last ∙ goes ∙ ap (λ (k : ℕ). k + number (k + 9) 4 bytes) (sym here)
