-- What is written of a base, message by message.
use Rattle.std.proofs.Common.{◌≡◌, ◌⊎◌, ℕ, ◌+◌, ◌^◌, ◌<◌, ◌≤◌, List, [], ◌∷◌, ◌++◌, length, map, Result, Ok, None, Some, true, refl, sym, ap, subst, ◌∙◌, inl, inr, arith, append_assoc}
use Rattle.std.proofs.lemmas.List.{append-nil, length-append, length-map, map-append}
use Rattle.std.proofs.lemmas.List.Concat.{flat_map-append}
use Rattle.std.specs.List.{AllByRecursion, flat_map}
use Rattle.list_laws.proofs.Fronts.{All-append}
use Rattle.proto_wire.specs.Varint.{shortest}
use Rattle.pk_copy.specs.KeyValue.{KeyValue}
use Rattle.row_view.specs.Row.{RowValue}
use Rattle.row_view.specs.WrittenRow.{IsWithinLimits}
use Rattle.vevent.specs.Event.{event_at}
use Rattle.vevent.specs.EventValue.{ChangeValue, EventValue, Begin, Commit, Row}
use Rattle.vevent.specs.WrittenEvent.{written_event, AreWithinLimits, EventsAreReadAgain}
use Rattle.vevent.specs.declared.fault.EventFault.{EventFault}
use Rattle.vevent.proofs.WrittenParts.{messages_short}
use Rattle.filter_rule.specs.PlanValue.{PlanValue}
use Rattle.source_feed.specs.Image.{ImageRows}
use Rattle.event_laws.specs.WrittenMessages.{written_response, framed, written_messages}
use Rattle.feed_bytes.specs.FieldBytes.{FieldBytesValue}
use Rattle.feed_bytes.specs.Inserts.{insert_change, inserts}
use Rattle.compaction_laws.specs.Portions.{Portion, event_of, rows_of, IsOfOneTable}
use Rattle.compaction.specs.Compacting.{HasLongRow, IsLongFeed, others_message, portion_message, written_base}
use Rattle.compaction.specs.Private.Sized.{inserts_message, joined}
use Rattle.compaction.specs.Private.LeftEntries.{Entries, rows_of as entry_rows}
use Rattle.compaction.specs.Private.Limits.{IsOverBy}
use Rattle.compaction.specs.Private.Written.{AddsEvents, HasName, AreNamed, WaitingValue, CanBePut, IsPortionPut, IsPut, IsReady, AddsRows, AddsFields, AddsEnd, AddsBase, IsWrittenOver}
use Rattle.compaction.specs.declared.fault.WriteFault.{WriteFault}
use Rattle.compaction.specs.declared.fault.WriteFault.TheVariants as write
use Rattle.std.specs.Str.{is_utf8}

-- ---- messages

abbrev Read : Type 0
Read = Result EventValue EventFault

abbrev good : EventValue → Read
good event = Ok event

abbrev all_parts : List (List (List ℕ)) → List (List ℕ)
all_parts messages = flat_map (λ (parts : List (List ℕ)). parts) messages

pub adds_more : (a b c : List ℕ) (xs ys : List EventValue) → AddsEvents a b xs → AddsEvents b c ys → AddsEvents a c (xs ++ ys)
adds_more a b c xs ys one two = record {
  messages = one.messages ++ two.messages;
  bytes = two.bytes ∙ ap (λ (w : List ℕ). w ++ written_messages two.messages) one.bytes ∙ append_assoc a (written_messages one.messages) (written_messages two.messages)
      ∙ ap (λ (w : List ℕ). a ++ w) (sym (flat_map-append (λ (events : List (List ℕ)). framed (written_response events)) one.messages two.messages));
  read = ap (λ (ps : List (List ℕ)). map event_at ps) (flat_map-append (λ (parts : List (List ℕ)). parts) one.messages two.messages)
      ∙ map-append event_at (all_parts one.messages) (all_parts two.messages)
      ∙ ap (λ (rs : List Read). rs ++ map event_at (all_parts two.messages)) one.read
      ∙ ap (λ (rs : List Read). map good xs ++ rs) two.read
      ∙ sym (map-append good xs ys);
}

-- behind other bytes
adds_behind : (old added : List ℕ) (events : List EventValue) → AddsEvents [] added events → AddsEvents old (old ++ added) events
adds_behind old added events adds = record { messages = adds.messages; bytes = ap (λ (w : List ℕ). old ++ w) adds.bytes; read = adds.read }

-- one message
pub adds_one : (old new : List ℕ) (parts : List (List ℕ)) (events : List EventValue) → new ≡ old ++ framed (written_response parts) → map event_at parts ≡ map Ok events → AddsEvents old new events
adds_one old new parts events is read = record {
  messages = parts ∷ [];
  bytes = is ∙ ap (λ (w : List ℕ). old ++ w) (sym (append-nil (framed (written_response parts))));
  read = ap (λ (ps : List (List ℕ)). map event_at ps) (append-nil parts) ∙ read;
}

-- ---- a portion

all_limits : (rows : List RowValue) → AllByRecursion IsWithinLimits rows → AllByRecursion AreWithinLimits (map insert_change rows)
all_limits [] h = tt
all_limits (row ∷ rows) h = (record { before = tt; after = h.0 }, all_limits rows h.1)

-- an event is shorter than what it was written behind
event_short : (old new event : List ℕ) → new ≡ old ++ framed (written_response (event ∷ [])) → length new < 2 ^ 64 → length event < 2 ^ 64
event_short old new event is short =
    let response : List ℕ = written_response (event ∷ []) in
    let whole : length new ≡ length old + length (framed response) = ap length is ∙ length-append old (framed response) in
    let frame : length (framed response) ≡ length (shortest (length response)) + length response = length-append (shortest (length response)) response in
    (messages_short 1 (event ∷ []) (omega (arith, short, whole, frame))).0

-- a message of rows behind others
pub adds_portion : EventsAreReadAgain → (old new portion name : List ℕ) (rows : List RowValue) → is_utf8 name ≡ true → AllByRecursion IsWithinLimits rows → length portion < 2 ^ 64 → portion ≡ inserts_message name rows → new ≡ old ++ portion
    → AddsEvents old new (inserts name rows ∷ [])
adds_portion again old new portion name rows utf8 limits short is put =
    let event : EventValue = inserts name rows in
    let read : event_at (written_event event) ≡ Ok event = again event (utf8, all_limits rows limits) (event_short [] portion (written_event event) is short) in
    adds_one old new (written_event event ∷ []) (event ∷ []) (put ∙ ap (λ (w : List ℕ). old ++ w) is) (ap (λ (r : Read). r ∷ []) read)

-- ---- rows that wait

abbrev Entry : Type 0
Entry = KeyValue × RowValue

-- rows were written as portions, and those behind them wait
pub record Going (plan : PlanValue) (start out : List ℕ) (waiting : WaitingValue) (done : ImageRows) : Type 0 where
  pub portions : List Portion
  pub each_portion : AllByRecursion (IsOfOneTable plan) portions
  pub adds : AddsEvents start out (map event_of portions)
  pub bytes : out ≡ start ++ written_messages (map portion_message portions)
  pub last : ImageRows
  pub are : rows_of portions ++ last ≡ done
  pub rows : map (λ (row : Entry). row.1) last ≡ waiting.rows
  pub keys : AllByRecursion (λ (row : Entry). row.0.table ≡ waiting.table) last

no_rows : {X Y : Type 0} (f : X → Y) (xs : List X) → map f xs ≡ [] → xs ≡ []
no_rows f [] e = refl
no_rows f (x ∷ xs) e = cc

same_event : (name : List ℕ) (rows : ImageRows) → inserts name (map (λ (row : Entry). row.1) rows) ≡ event_of (record { name = name; rows = rows })
same_event name rows = ap (λ (changes : List ChangeValue). Row name changes) (both rows)
  where
    both : (rows : ImageRows) → map insert_change (map (λ (row : Entry). row.1) rows) ≡ map (λ (row : Entry). record { before = None; after = Some row.1 }) rows
    both [] = refl
    both (row ∷ rows) = ap (λ (changes : List ChangeValue). insert_change row.1 ∷ changes) (both rows)

same_rows : (plan : PlanValue) (waiting : WaitingValue) (last : ImageRows) (old new : List ℕ) (put : IsPortionPut plan waiting old new) → map (λ (row : Entry). row.1) last ≡ waiting.rows
    → AddsEvents old new (event_of (record { name = put.name; rows = last }) ∷ [])
same_rows plan waiting last old new put e =
    subst (λ (event : EventValue). AddsEvents old new (event ∷ [])) (ap (inserts put.name) (sym e) ∙ same_event put.name last) put.adds

-- the message of one portion more
portion_more : (start out new : List ℕ) (portions : List Portion) (portion : Portion) → out ≡ start ++ written_messages (map portion_message portions) → new ≡ out ++ framed (written_response (portion_message portion))
    → new ≡ start ++ written_messages (map portion_message (portions ++ portion ∷ []))
portion_more start out new portions portion is more =
    let one : List ℕ = framed (written_response (portion_message portion)) in
    let before : List ℕ = written_messages (map portion_message portions) in
    more ∙ ap (λ (w : List ℕ). w ++ one) is ∙ append_assoc start before one
    ∙ ap (λ (w : List ℕ). start ++ (before ++ w)) (sym (append-nil one))
    ∙ ap (λ (w : List ℕ). start ++ w) (sym (flat_map-append (λ (events : List (List ℕ)). framed (written_response events)) (map portion_message portions) (portion_message portion ∷ [])))
    ∙ ap (λ (ms : List (List (List ℕ))). start ++ written_messages ms) (sym (map-append portion_message portions (portion ∷ [])))

-- what waited is written
pub going_put : (plan : PlanValue) (start out new : List ℕ) (waiting next : WaitingValue) (done : ImageRows) → Going plan start out waiting done → IsPut plan waiting out new → next.rows ≡ [] → Going plan start new next done
going_put plan start out new waiting next done g (inl none) empty =
    let nothing : g.last ≡ [] = no_rows (λ (row : Entry). row.1) g.last (g.rows ∙ none.0) in
    record {
      portions = g.portions;
      each_portion = g.each_portion;
      adds = subst (λ (w : List ℕ). AddsEvents start w (map event_of g.portions)) (sym none.1) g.adds;
      bytes = none.1 ∙ g.bytes;
      last = [];
      are = ap (λ (rows : ImageRows). rows_of g.portions ++ rows) (sym nothing) ∙ g.are;
      rows = sym empty;
      keys = tt;
    }
going_put plan start out new waiting next done g (inr put) empty =
    let portion : Portion = record { name = put.name; rows = g.last } in
    let long : length g.last ≡ length waiting.rows = sym (length-map g.last (λ (row : Entry). row.1)) ∙ ap length g.rows in
    let is : IsOfOneTable plan portion = record { table = waiting.table; planned = put.named; keys = g.keys; some = omega (arith, long, put.some) } in
    record {
      portions = g.portions ++ portion ∷ [];
      each_portion = All-append (IsOfOneTable plan) g.portions (portion ∷ []) g.each_portion (is, tt);
      adds = subst (λ (events : List EventValue). AddsEvents start new events) (sym (map-append event_of g.portions (portion ∷ [])))
          (adds_more start out new (map event_of g.portions) (event_of portion ∷ []) g.adds (same_rows plan waiting g.last out new put g.rows));
      bytes = portion_more start out new g.portions portion g.bytes
          (put.bytes ∙ ap (λ (event : EventValue). out ++ framed (written_response (written_event event ∷ []))) (ap (inserts put.name) (sym g.rows) ∙ same_event put.name g.last));
      last = [];
      are = append-nil (rows_of (g.portions ++ portion ∷ [])) ∙ flat_map-append (λ (p : Portion). p.rows) g.portions (portion ∷ [])
          ∙ ap (λ (rows : ImageRows). rows_of g.portions ++ rows) (append-nil g.last) ∙ g.are;
      rows = sym empty;
      keys = tt;
    }

-- a row more waits
going_more : (plan : PlanValue) (start out : List ℕ) (waiting : WaitingValue) (done : ImageRows) (key : KeyValue) (row : RowValue) → Going plan start out waiting done
    → (waiting.rows ≡ []) ⊎ (waiting.table ≡ key.table) → Going plan start out (record { table = key.table; rows = waiting.rows ++ row ∷ [] }) (done ++ (key, row) ∷ [])
going_more plan start out waiting done key row g same = record {
  portions = g.portions;
  each_portion = g.each_portion;
  adds = g.adds;
  bytes = g.bytes;
  last = g.last ++ (key, row) ∷ [];
  are = sym (append_assoc (rows_of g.portions) g.last ((key, row) ∷ [])) ∙ ap (λ (rows : ImageRows). rows ++ (key, row) ∷ []) g.are;
  rows = map-append (λ (r : Entry). r.1) g.last ((key, row) ∷ []) ∙ ap (λ (rows : List RowValue). rows ++ row ∷ []) g.rows;
  keys = All-append (λ (r : Entry). r.0.table ≡ key.table) g.last ((key, row) ∷ []) (by same) (refl, tt);
}
  where
    by : (waiting.rows ≡ []) ⊎ (waiting.table ≡ key.table) → AllByRecursion (λ (r : Entry). r.0.table ≡ key.table) g.last
    by (inl none) =
        subst (λ (rows : ImageRows). AllByRecursion (λ (r : Entry). r.0.table ≡ key.table) rows) (sym (no_rows (λ (r : Entry). r.1) g.last (g.rows ∙ none))) tt
    by (inr one) = subst (λ (n : ℕ). AllByRecursion (λ (r : Entry). r.0.table ≡ n) g.last) one g.keys

-- a row of a table waits, behind what waited or in its place
pub going_on : (plan : PlanValue) (start out new : List ℕ) (waiting ready next : WaitingValue) (done : ImageRows) (key : KeyValue) (row : RowValue) (table : ℕ) → table ≡ key.table
    → Going plan start out waiting done → IsReady plan table waiting out ready new → next ≡ record { table = table; rows = ready.rows ++ row ∷ [] } → Going plan start new next (done ++ (key, row) ∷ [])
going_on plan start out new waiting ready next done key row table is g (inl same) made =
    let here : Going plan start new ready done = subst (λ (w : List ℕ). Going plan start w ready done) (sym same.1) (subst (λ (w : WaitingValue). Going plan start out w done) (sym same.0) g) in
    let of : ready.table ≡ key.table = ap (λ (w : WaitingValue). w.table) same.0 ∙ same.2 ∙ is in
    subst (λ (w : WaitingValue). Going plan start new w (done ++ (key, row) ∷ [])) (sym (made ∙ ap (λ (n : ℕ). record { table = n; rows = ready.rows ++ row ∷ [] }) is))
    (going_more plan start new ready done key row here (inr of))
going_on plan start out new waiting ready next done key row table is g (inr put) made =
    let here : Going plan start new ready done = going_put plan start out new waiting ready done g put.0 put.1 in
    subst (λ (w : WaitingValue). Going plan start new w (done ++ (key, row) ∷ [])) (sym (made ∙ ap (λ (n : ℕ). record { table = n; rows = ready.rows ++ row ∷ [] }) is))
    (going_more plan start new ready done key row here (inl put.1))

-- all are written
pub going_ends : (plan : PlanValue) (start out new : List ℕ) (waiting : WaitingValue) (done : ImageRows) → Going plan start out waiting done → IsPut plan waiting out new → AddsRows plan start new done
going_ends plan start out new waiting done g put =
    let end : Going plan start new (record { table = 0; rows = [] }) done = going_put plan start out new waiting (record { table = 0; rows = [] }) done g put refl in
    let none : end.last ≡ [] = no_rows (λ (row : Entry). row.1) end.last end.rows in
    record {
      portions = end.portions;
      each_portion = end.each_portion;
      are = sym (append-nil (rows_of end.portions)) ∙ ap (λ (rows : ImageRows). rows_of end.portions ++ rows) (sym none) ∙ end.are;
      adds = end.adds;
      bytes = end.bytes;
    }

-- ---- one row after another

-- rows are written, and those that are left have names
pub record WritesOn (plan : PlanValue) (fields : List FieldBytesValue) (start out : List ℕ) (waiting : WaitingValue) (all : ImageRows) (left : Entries) : Type 0 where
  pub done : ImageRows
  pub parts : done ++ entry_rows left ≡ all
  pub going : Going plan start out waiting done
  pub ready : CanBePut plan fields waiting
  pub named : AreNamed plan fields (entry_rows left)

pub writes_next : (plan : PlanValue) (fields : List FieldBytesValue) (start out new : List ℕ) (waiting ready next : WaitingValue) (all : ImageRows) (left more : Entries) (entry : KeyValue × (ℕ × RowValue)) (table : ℕ)
    → WritesOn plan fields start out waiting all left → left ≡ entry ∷ more → table ≡ entry.0.table → IsReady plan table waiting out ready new → next ≡ record { table = table; rows = ready.rows ++ entry.1.1 ∷ [] }
    → WritesOn plan fields start new next all more
writes_next plan fields start out new waiting ready next all left more entry table w is of room made =
    let row : KeyValue × RowValue = (entry.0, entry.1.1) in
    let named : AreNamed plan fields (row ∷ entry_rows more) = subst (λ (es : Entries). AreNamed plan fields (entry_rows es)) is w.named in
    record {
      done = w.done ++ row ∷ [];
      parts = append_assoc w.done (row ∷ []) (entry_rows more) ∙ ap (λ (es : Entries). w.done ++ entry_rows es) (sym is) ∙ w.parts;
      going = going_on plan start out new waiting ready next w.done entry.0 entry.1.1 table of w.going room made;
      ready = inr (subst (HasName plan fields) (sym (ap (λ (n : WaitingValue). n.table) made ∙ of)) named.0);
      named = named.1;
    }

pub writes_end : (plan : PlanValue) (fields : List FieldBytesValue) (start out new : List ℕ) (waiting : WaitingValue) (all : ImageRows) (left : Entries) → WritesOn plan fields start out waiting all left → left ≡ [] → IsPut plan waiting out new
    → AddsRows plan start new all
writes_end plan fields start out new waiting all left w none put =
    let all_done : w.done ≡ all = sym (append-nil w.done) ∙ ap (λ (es : Entries). w.done ++ entry_rows es) (sym none) ∙ w.parts in
    subst (AddsRows plan start new) all_done (going_ends plan start out new waiting w.done w.going put)

-- a row that is beyond the limits is one of all
pub long_row : (plan : PlanValue) (fields : List FieldBytesValue) (start out : List ℕ) (waiting : WaitingValue) (all : ImageRows) (left more : Entries) (entry : KeyValue × (ℕ × RowValue)) → WritesOn plan fields start out waiting all left
    → left ≡ entry ∷ more → ¬ IsWithinLimits entry.1.1 → HasLongRow all
long_row plan fields start out waiting all left more entry w is long within =
    let parts : w.done ++ ((entry.0, entry.1.1) ∷ entry_rows more) ≡ all = ap (λ (es : Entries). w.done ++ entry_rows es) (sym is) ∙ w.parts in
    long (behind w.done (subst (λ (rows : ImageRows). AllByRecursion (λ (row : Entry). IsWithinLimits row.1) rows) (sym parts) within))
  where
    behind : (done : ImageRows) → AllByRecursion (λ (row : Entry). IsWithinLimits row.1) (done ++ ((entry.0, entry.1.1) ∷ entry_rows more)) → IsWithinLimits entry.1.1
    behind [] h = h.0
    behind (row ∷ done) h = behind done h.1

-- ---- the whole

events_with : (bytes : List (List ℕ)) (fields : List FieldBytesValue) (last : List ℕ) (events : List EventValue) (event : EventValue) → bytes ≡ map (λ (field : FieldBytesValue). field.bytes) fields ++ last ∷ []
    → map (λ (field : FieldBytesValue). event_at field.bytes) fields ≡ map good events → event_at last ≡ good event → map event_at bytes ≡ map good (events ++ event ∷ [])
events_with bytes fields last events event are read end =
    ap (λ (bs : List (List ℕ)). map event_at bs) are
    ∙ map-append event_at (map (λ (field : FieldBytesValue). field.bytes) fields) (last ∷ [])
    ∙ ap (λ (rs : List Read). rs ++ event_at last ∷ []) (both fields ∙ read)
    ∙ ap (λ (r : Read). map good events ++ r ∷ []) end
    ∙ sym (map-append good events (event ∷ []))
  where
    both : (fields : List FieldBytesValue) → map event_at (map (λ (field : FieldBytesValue). field.bytes) fields) ≡ map (λ (field : FieldBytesValue). event_at field.bytes) fields
    both [] = refl
    both (field ∷ fields) = ap (λ (rs : List Read). event_at field.bytes ∷ rs) (both fields)

pub adds_fields : (old new : List ℕ) (bytes : List (List ℕ)) (fields : List FieldBytesValue) (begin : List ℕ) → new ≡ old ++ framed (written_response bytes)
    → bytes ≡ map (λ (field : FieldBytesValue). field.bytes) fields ++ begin ∷ [] → event_at begin ≡ Ok Begin → AddsFields old new fields
adds_fields old new bytes fields begin is are read events e = adds_one old new bytes (events ++ Begin ∷ []) is (events_with bytes fields begin events Begin are e read)

pub adds_end : (old new : List ℕ) (place commit : List ℕ) → new ≡ old ++ framed (written_response (place ∷ commit ∷ [])) → event_at commit ≡ Ok Commit → AddsEnd old new place
adds_end old new place commit is read event e = adds_one old new (place ∷ commit ∷ []) (event ∷ Commit ∷ []) is (ap (λ (r : Read). r ∷ event_at commit ∷ []) e ∙ ap (λ (r : Read). good event ∷ r ∷ []) read)

adds_base : (plan : PlanValue) (old one two new : List ℕ) (fields : List FieldBytesValue) (rows : ImageRows) (place : List ℕ) → AddsFields old one fields → AddsRows plan one two rows → AddsEnd two new place
    → AddsBase plan old new fields rows place
adds_base plan old one two new fields rows place head middle end events event e p =
    let inserted : List EventValue = map event_of middle.portions in
    let first : AddsEvents old two ((events ++ Begin ∷ []) ++ inserted) = adds_more old one two (events ++ Begin ∷ []) inserted (head events e) middle.adds in
    let all : AddsEvents old new (((events ++ Begin ∷ []) ++ inserted) ++ event ∷ Commit ∷ []) = adds_more old two new ((events ++ Begin ∷ []) ++ inserted) (event ∷ Commit ∷ []) first (end event p) in
    record {
      portions = middle.portions;
      each_portion = middle.each_portion;
      are = middle.are;
      adds = subst (λ (all : List EventValue). AddsEvents old new all)
          (append_assoc (events ++ Begin ∷ []) inserted (event ∷ Commit ∷ []) ∙ append_assoc events (Begin ∷ []) (inserted ++ event ∷ Commit ∷ [])) all;
    }

-- the pieces of a feed one after another
pub is_written_over : (plan : PlanValue) (fields : List FieldBytesValue) (rows : ImageRows) (place : List ℕ) (others : List (List ℕ)) (rest head end tail : List ℕ) (portions : List (List ℕ)) (new : List ℕ) → AddsFields [] head fields
    → AddsRows plan [] (joined portions) rows → AddsEnd [] end place → tail ≡ end ++ others_message others → new ≡ head ++ (joined portions ++ (tail ++ rest)) → length new < 2 ^ 31 → IsWrittenOver plan fields rows place others rest new
is_written_over plan fields rows place others rest head end tail portions new first middle last tail_is is short =
    let messages : List ℕ = joined portions in
    let base : List ℕ = (head ++ messages) ++ end in
    let behind : List ℕ = others_message others ++ rest in
    let second : AddsRows plan head (head ++ messages) rows = record {
      portions = middle.portions;
      each_portion = middle.each_portion;
      are = middle.are;
      adds = adds_behind head messages (map event_of middle.portions) middle.adds;
      bytes = ap (λ (w : List ℕ). head ++ w) middle.bytes;
    } in
    let third : AddsEnd (head ++ messages) base place = λ event e. adds_behind (head ++ messages) end (event ∷ Commit ∷ []) (last event e) in
    record {
      base = base;
      adds = adds_base plan [] head (head ++ messages) base fields rows place first second third;
      parts = is ∙ ap (λ (w : List ℕ). head ++ (messages ++ (w ++ rest))) tail_is ∙ ap (λ (w : List ℕ). head ++ (messages ++ w)) (append_assoc end (others_message others) rest)
          ∙ sym (append_assoc (head ++ messages) end behind ∙ append_assoc head messages (end ++ behind));
      short = short;
    }

-- and are too long
pub is_long_feed : (plan : PlanValue) (fields : List FieldBytesValue) (rows : ImageRows) (place : List ℕ) (others : List (List ℕ)) (rest head end tail : List ℕ) (portions : List (List ℕ))
    → head ≡ framed (written_response (map (λ (field : FieldBytesValue). field.bytes) fields ++ written_event Begin ∷ [])) → AddsRows plan [] (joined portions) rows
    → end ≡ framed (written_response (place ∷ written_event Commit ∷ [])) → tail ≡ end ++ others_message others → 2 ^ 31 ≤ length (head ++ (joined portions ++ (tail ++ rest))) → IsLongFeed plan fields rows place others rest
is_long_feed plan fields rows place others rest head end tail portions first middle last tail_is long =
    let messages : List ℕ = joined portions in
    let behind : List ℕ = others_message others ++ rest in
    let one : List ℕ = framed (written_response (place ∷ written_event Commit ∷ [])) in
    let base_is : written_base fields middle.portions place ≡ head ++ (messages ++ end) =
    ap (λ (w : List ℕ). framed (written_response (map (λ (field : FieldBytesValue). field.bytes) fields ++ written_event Begin ∷ [])) ++ w)
    (
    flat_map-append (λ (events : List (List ℕ)). framed (written_response events)) (map portion_message middle.portions) ((place ∷ written_event Commit ∷ []) ∷ [])
    ∙ ap (λ (w : List ℕ). written_messages (map portion_message middle.portions) ++ w) (append-nil one)
    ∙ ap (λ (w : List ℕ). w ++ one) (sym middle.bytes)
    ∙ ap (λ (w : List ℕ). messages ++ w) (sym last)
    )
    ∙ ap (λ (w : List ℕ). w ++ (messages ++ end)) (sym first) in
    let all : head ++ (messages ++ (tail ++ rest)) ≡ written_base fields middle.portions place ++ behind =
    ap (λ (w : List ℕ). head ++ (messages ++ (w ++ rest))) tail_is
    ∙ ap (λ (w : List ℕ). head ++ (messages ++ w)) (append_assoc end (others_message others) rest)
    ∙ ap (λ (w : List ℕ). head ++ w) (sym (append_assoc messages end behind))
    ∙ sym (append_assoc head (messages ++ end) behind)
    ∙ ap (λ (w : List ℕ). w ++ behind) (sym base_is) in
    record { portions = middle.portions; each_portion = middle.each_portion; are = middle.are; long = subst (λ (w : List ℕ). 2 ^ 31 ≤ length w) all long }

-- ---- what is over

-- what is beyond the limits for one reason is so for another that follows
pub over_by : (One Other : Type 0) (fault : WriteFault) → (One → Other) → IsOverBy One fault → IsOverBy Other fault
over_by One Other write.TooLong carries over = carries over
over_by One Other write.Memory carries over = tt
