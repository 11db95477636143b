-- The transactions of a log's first events go on with each event.
use Rattle.std.proofs.Common.{◌≡◌, ◌≢◌, ◌⊎◌, inl, inr, ℕ, zero, suc, ◌+◌, ◌<◌, List, [], ◌∷◌, ◌++◌, length, append_assoc, take, if◌then◌else◌, Option, None, Some, Result, Ok, Err, refl, sym, ap, ◌∙◌, arith}
use Rattle.std.proofs.lemmas.Bool.{cases_lt}
use Rattle.std.proofs.lemmas.List.{take_all, append-nil}
use Rattle.list_laws.specs.Outcome.{◌>>=◌}
use Rattle.item_readers.specs.Reading.{Reading, Spells}
use Rattle.item_readers.proofs.ReadingLaws.{spells-reading, only_reading, reading-none}
use Rattle.log_events.specs.declared.fault.EventFault.{EventFault}
use Rattle.log_events.specs.Event.{LogEvent}
use Rattle.log_tables.specs.declared.fault.TableFault.{TableFault}
use Rattle.log_tables.specs.TableMap.{MapValue, map_at}
use Rattle.log_rows.specs.declared.fault.RowFault.{RowFault}
use Rattle.log_rows.specs.declared.change.RowsKind.{RowsKind}
use Rattle.log_rows.specs.Head.{HeadValue, head_at}
use Rattle.log_groups.specs.declared.class.EventClass.{EventClass}
use Rattle.log_groups.specs.declared.class.EventClass.TheVariants as class
use Rattle.log_groups.specs.declared.statement.Statement.{Statement}
use Rattle.log_groups.specs.declared.statement.Statement.TheVariants.{Begins, Commits, RollsBack, Saves, BacksTo, XaCommits, XaRollsBack, Alters, AltersAndBegins, Harmless, Unknown}
use Rattle.log_groups.specs.declared.done.Waits.{Waits}
use Rattle.log_groups.specs.declared.done.Waits.TheVariants.{ForOne, ForEither}
use Rattle.log_groups.specs.declared.fault.GroupFault.{GroupFault}
use Rattle.log_groups.specs.declared.fault.GroupFault.TheVariants.{Event, Body, Head, Refused, Statement as NotKnown, Outside, NoTable, NoSavepoint, Unended}
use Rattle.log_groups.specs.Fault.{of_body, of_head}
use Rattle.log_groups.specs.Class.{class_of}
use Rattle.log_groups.specs.Body.{QueryValue, query_at, prepared_at, maria_at, mysql_at}
use Rattle.log_groups.specs.Statement.{statement_of, back_name}
use Rattle.log_groups.specs.Keeping.{mark_of}
use Rattle.log_groups.specs.Step.{GtidValue, Maria, Mysql, Committed, Prepared, StepValue, Begin, Map, Rows, Ends, Said, LogStep, said, step_by, step_of, put_step, steps_in}
use Rattle.log_groups.specs.Transaction.{Altered, TransactionValue, SoFar, waits_behind, begun, opened, with_done, map_of, Turn, Goes, Ended, rows_turn, back_turn, said_within, opens, said_first, turn_by, turn_at, turn_of, Reaches, IsTransaction, NoTransaction, transaction_at, transactions_of}
use Rattle.log_groups.specs.Cuts.{told_by, IsOfEvent, GoesOn, EndsAs, EventsGoOn}
use Rattle.log_groups.proofs.TransactionLaws.{transaction_reader}

-- ---- the faults of steps

is_of : (fault other : GroupFault) → IsOfEvent fault → fault ≡ other → IsOfEvent other
is_of fault other h e = rw (sym e) h

body_fault : {A : Type 0} (r : Result A TableFault) (step : A → Result (Option StepValue) GroupFault) (fault : GroupFault) → ((x : A) → step x ≡ Err fault → IsOfEvent fault) → (of_body r >>= step) ≡ Err fault → IsOfEvent fault
body_fault (Ok x) step fault h e = h x e
body_fault (Err other) step fault h e = is_of Body fault tt cc

head_fault : {A : Type 0} (r : Result A RowFault) (step : A → Result (Option StepValue) GroupFault) (fault : GroupFault) → ((x : A) → step x ≡ Err fault → IsOfEvent fault) → (of_head r >>= step) ≡ Err fault → IsOfEvent fault
head_fault (Ok x) step fault h e = h x e
head_fault (Err other) step fault h e = is_of (Head other) fault tt cc

said_fault : (s : Statement) (q : QueryValue) (fault : GroupFault) → said s q ≡ Err fault → IsOfEvent fault
said_fault Unknown q fault e = is_of NotKnown fault tt cc
said_fault s q fault e = cc

step_fault : (c : EventClass) (body : List ℕ) (fault : GroupFault) → step_by c body ≡ Err fault → IsOfEvent fault
step_fault class.Query body fault e = body_fault (query_at body) (λ q. said (statement_of q.text) q) fault (λ q h. said_fault (statement_of q.text) q fault h) e
step_fault class.TableMap body fault e = body_fault (map_at body) (λ m. Ok (Some (Map m))) fault (λ m h. cc) e
step_fault (class.Rows kind second) body fault e = head_fault (head_at kind second body) (λ h. Ok (Some (Rows kind h))) fault (λ h n. cc) e
step_fault class.MariaGtid body fault e = body_fault (maria_at body) (λ g. Ok (Some (Begin (Maria g)))) fault (λ g h. cc) e
step_fault class.MysqlGtid body fault e = body_fault (mysql_at body) (λ g. Ok (Some (Begin (Mysql g)))) fault (λ g h. cc) e
step_fault class.XaPrepare body fault e = body_fault (prepared_at body) (λ p. Ok (Some (Ends (if p.one_phase then Committed else Prepared p.xid)))) fault (λ p h. cc) e
step_fault (class.Refused number) body fault e = is_of (Refused number) fault tt cc
step_fault class.Xid body fault e = cc
step_fault class.Description body fault e = cc
step_fault class.MariaList body fault e = cc
step_fault class.MysqlList body fault e = cc
step_fault class.Skipped body fault e = cc

outside : (fault : GroupFault) → ◌≡◌ {A = Result Turn GroupFault} (Err Outside) (Err fault) → IsOfEvent fault
outside fault e = is_of Outside fault tt cc

rows_fault : (now : SoFar) (kind : RowsKind) (head : HeadValue) (m : Option MapValue) (fault : GroupFault) → rows_turn now kind head m ≡ Err fault → IsOfEvent fault
rows_fault now kind head (Some m) fault e = cc
rows_fault now kind head None fault e = is_of NoTable fault tt cc

back_fault : (now : SoFar) (k : Option ℕ) (fault : GroupFault) → back_turn now k ≡ Err fault → IsOfEvent fault
back_fault now (Some k) fault e = cc
back_fault now None fault e = is_of NoSavepoint fault tt cc

within_fault : (now : SoFar) (s : Statement) (q : QueryValue) (fault : GroupFault) → said_within now s q ≡ Err fault → IsOfEvent fault
within_fault now Commits q fault e = cc
within_fault now RollsBack q fault e = cc
within_fault now Saves q fault e = cc
within_fault now BacksTo q fault e = back_fault now (mark_of (back_name q.text) now.kept.marks) fault e
within_fault now Alters q fault e = cc
within_fault now Harmless q fault e = cc
within_fault now s q fault e = outside fault e

opens_fault : (waits : Waits) (now : SoFar) (fault : GroupFault) → opens waits now ≡ Err fault → IsOfEvent fault
opens_fault ForOne now fault e = outside fault e
opens_fault ForEither now fault e = cc

first_fault : (waits : Waits) (now : SoFar) (s : Statement) (q : QueryValue) (fault : GroupFault) → said_first waits now s q ≡ Err fault → IsOfEvent fault
first_fault waits now Begins q fault e = opens_fault waits (opened now) fault e
first_fault waits now AltersAndBegins q fault e = opens_fault waits (with_done now (Altered q)) fault e
first_fault waits now Alters q fault e = cc
first_fault waits now Harmless q fault e = cc
first_fault waits now XaCommits q fault e = cc
first_fault waits now XaRollsBack q fault e = cc
first_fault waits now s q fault e = outside fault e

by_fault : (waits : Option Waits) (now : SoFar) (step : StepValue) (fault : GroupFault) → turn_by waits now step ≡ Err fault → IsOfEvent fault
by_fault None now (Begin g) fault e = outside fault e
by_fault None now (Map m) fault e = cc
by_fault None now (Rows kind head) fault e = rows_fault now kind head (map_of head.table now.maps) fault e
by_fault None now (Ends ending) fault e = cc
by_fault None now (Said s q) fault e = within_fault now s q fault e
by_fault (Some waits) now (Said s q) fault e = first_fault waits now s q fault e
by_fault (Some waits) now step fault e = outside fault e

turn_fault : (now : SoFar) (step : StepValue) (fault : GroupFault) → turn_at now step ≡ Err fault → IsOfEvent fault
unfolding turn_at
turn_fault now step fault e = by_fault now.waits now step fault e

-- a step that is read, or is at a fault of an event
abbrev IsSoundStep : LogStep → Type 0
IsSoundStep (Ok step) = Unit {0}
IsSoundStep (Err fault) = IsOfEvent fault

abbrev AreSound : List LogStep → Type 0
AreSound [] = Unit {0}
AreSound (step ∷ steps) = IsSoundStep step × AreSound steps

sound_behind : (front rest steps : List LogStep) → steps ≡ front ++ rest → AreSound steps → AreSound rest
sound_behind front rest steps parts sound = by_front front (rw parts at sound)
  where
    by_front : (front : List LogStep) → AreSound (front ++ rest) → AreSound rest
    by_front [] h = h
    by_front (step ∷ front) h = by_front front h.1

turn_of-fault : (now : SoFar) (step : LogStep) (fault : GroupFault) → IsSoundStep step → turn_of now step ≡ Err fault → IsOfEvent fault
turn_of-fault now (Ok step) fault h e = turn_fault now step fault e
turn_of-fault now (Err other) fault h e = is_of other fault h cc

put-sound : (event : LogEvent) (r : Result (Option StepValue) GroupFault) (steps : List LogStep) → step_of event ≡ r → AreSound steps → AreSound (put_step r steps)
unfolding step_of
put-sound event (Ok None) steps e h = h
put-sound event (Ok (Some step)) steps e h = (tt, h)
put-sound event (Err fault) steps e h = (step_fault (class_of event.kind event.flags) event.body fault e, h)

steps-sound : (events : List LogEvent) → AreSound (steps_in events None)
unfolding steps_in
steps-sound [] = tt
steps-sound (event ∷ events) = put-sound event (step_of event) (steps_in events None) refl (steps-sound events)

-- ---- one step more

-- what it is to the transactions so far, which end so: these transactions more, and this end
abbrev FirstOf : LogStep → Option GroupFault → Type 0
FirstOf (Ok (Begin g)) end = end ≡ Some Unended
FirstOf (Ok step) end = end ≡ Some Outside
FirstOf (Err fault) end = end ≡ Some fault

abbrev WithinOne : LogStep → List TransactionValue → Option GroupFault → Type 0
WithinOne (Ok step) more end = ((more ≡ []) × (end ≡ Some Unended))
    ⊎ ((t : TransactionValue) × (more ≡ t ∷ []) × (end ≡ None))
    ⊎ ((more ≡ []) × (fault : GroupFault) × IsOfEvent fault × (end ≡ Some fault))
WithinOne (Err fault) more end = (more ≡ []) × (end ≡ Some fault)

abbrev TurnsTo : LogStep → Option GroupFault → List TransactionValue → Option GroupFault → Type 0
TurnsTo step None more end = (more ≡ []) × FirstOf step end
TurnsTo step (Some Unended) more end = WithinOne step more end
TurnsTo step (Some fault) more end = (more ≡ []) × (end ≡ Some fault)

abbrev Are : List LogStep → List TransactionValue → Option GroupFault → Type 0
Are steps items fault = Spells IsTransaction NoTransaction steps items fault

not_nil : (steps : List LogStep) (step : LogStep) → steps ++ step ∷ [] ≢ []
not_nil [] step e = cc
not_nil (first ∷ steps) step e = cc

stays : (step : LogStep) (fault : GroupFault) → IsOfEvent fault → TurnsTo step (Some fault) [] (Some fault)
stays step (Event fault) h = absurd h
stays step Unended h = absurd h
stays step fault h = (refl, refl)

stayed : (step : LogStep) (fault : GroupFault) (more : List TransactionValue) (end : Option GroupFault) → IsOfEvent fault → TurnsTo step (Some fault) more end → (more ≡ []) × (end ≡ Some fault)
stayed step (Event fault) more end h t = absurd h
stayed step Unended more end h t = absurd h
stayed step fault more end h t = t

reaches_more : (old : SoFar) (middle : List LogStep) (now new : SoFar) (step : LogStep) → Reaches old middle now → turn_of now step ≡ Ok (Goes new) → Reaches old (middle ++ step ∷ []) new
reaches_more old [] now new step reaches e = (new, ap (λ (i : SoFar). turn_of i step) (sym reaches) ∙ e, refl)
reaches_more old (first ∷ middle) now new step (mid, turned, reaches) e = (mid, turned, reaches_more mid middle now new step reaches e)

first_of : (step : LogStep) → (end : Option GroupFault) × FirstOf step end × Are (step ∷ []) [] end
first_of (Ok (Begin g)) = (Some Unended, refl, (λ e. cc, inr (inr (inr (g, [], [], begun (waits_behind g), refl, refl, refl)))))
first_of (Ok (Map m)) = (Some Outside, refl, (λ e. cc, inr (inr (inl (Map m, [], refl, tt, refl)))))
first_of (Ok (Rows kind h)) = (Some Outside, refl, (λ e. cc, inr (inr (inl (Rows kind h, [], refl, tt, refl)))))
first_of (Ok (Ends ending)) = (Some Outside, refl, (λ e. cc, inr (inr (inl (Ends ending, [], refl, tt, refl)))))
first_of (Ok (Said s q)) = (Some Outside, refl, (λ e. cc, inr (inr (inl (Said s q, [], refl, tt, refl)))))
first_of (Err fault) = (Some fault, refl, (λ e. cc, inr (inl ([], refl))))

-- so many more, and so ended
record Grown (steps : List LogStep) (items : List TransactionValue) (fault : Option GroupFault) (step : LogStep) : Type 0 where
  pub more : List TransactionValue
  pub end : Option GroupFault
  pub turns : TurnsTo step fault more end
  pub are : Are (steps ++ step ∷ []) (items ++ more) end

module _ (g : GtidValue) (middle : List LogStep) (now : SoFar) (reaches : Reaches (begun (waits_behind g)) middle now) (steps : List LogStep) (is : steps ≡ Ok (Begin g) ∷ (middle ++ [])) where
  with_step : (step : LogStep) → steps ++ step ∷ [] ≡ Ok (Begin g) ∷ (middle ++ step ∷ [])
  with_step step = ap (λ (xs : List LogStep). xs ++ step ∷ []) (is ∙ ap (λ (xs : List LogStep). Ok (Begin g) ∷ xs) (append-nil middle))

  open_turn : (step : StepValue) (r : Result Turn GroupFault) → turn_at now step ≡ r → Grown steps [] (Some Unended) (Ok step)
  open_turn step (Ok (Goes new)) e =
      let all : steps ++ Ok step ∷ [] ≡ Ok (Begin g) ∷ ((middle ++ Ok step ∷ []) ++ []) = with_step (Ok step) ∙ ap (λ (xs : List LogStep). Ok (Begin g) ∷ xs) (sym (append-nil (middle ++ Ok step ∷ []))) in
      record {
        more = [];
        end = Some Unended;
        turns = inl (refl, refl);
        are = (not_nil steps (Ok step), inr (inr (inr (g, middle ++ Ok step ∷ [], [], new, all, reaches_more (begun (waits_behind g)) middle now new (Ok step) reaches e, refl))));
      }
  open_turn step (Ok (Ended changes ending)) e =
      let t : TransactionValue = record { gtid = g; changes = changes; ending = ending } in
      record {
        more = t ∷ [];
        end = None;
        turns = inr (inl (t, refl, refl));
        are = (steps ++ Ok step ∷ [], [], sym (append-nil (steps ++ Ok step ∷ [])), record { middle = middle; last = Ok step; end = now; is = with_step (Ok step); reaches = reaches; ends = e }, refl);
      }
  open_turn step (Err fault) e = record {
    more = [];
    end = Some fault;
    turns = inr (inr (refl, fault, turn_fault now step fault e, refl));
    are = (not_nil steps (Ok step), inr (inr (inr (g, middle, Ok step ∷ [], now, with_step (Ok step), reaches, e))));
  }

  open_grown : (step : LogStep) → Grown steps [] (Some Unended) step
  open_grown (Ok step) = open_turn step (turn_at now step) refl
  open_grown (Err fault) = record {
    more = [];
    end = Some fault;
    turns = (refl, refl);
    are = (not_nil steps (Err fault), inr (inr (inr (g, middle, Err fault ∷ [], now, with_step (Err fault), reaches, refl))));
  }

fault_grown : (steps : List LogStep) (fault : GroupFault) (step : LogStep) → AreSound steps → steps ≢ [] → NoTransaction steps fault → Grown steps [] (Some fault) step
fault_grown steps fault step sound some (inl (none, unended)) = absurd (some none)
fault_grown steps fault step sound some (inr (inl (rest, is))) = record {
  more = [];
  end = Some fault;
  turns = stays step fault (let front = rw is at sound in front.0);
  are = (not_nil steps step, inr (inl (rest ++ step ∷ [], ap (λ (xs : List LogStep). xs ++ step ∷ []) is)));
}
fault_grown steps fault step sound some (inr (inr (inl (first, rest, is, other, outside)))) = record {
  more = [];
  end = Some fault;
  turns = stays step fault (is_of Outside fault tt (sym outside));
  are = (not_nil steps step, inr (inr (inl (first, rest ++ step ∷ [], ap (λ (xs : List LogStep). xs ++ step ∷ []) is, other, outside))));
}
fault_grown steps fault step sound some (inr (inr (inr (g, middle, [], now, is, reaches, stops)))) = rw stops (open_grown g middle now reaches steps is step)
fault_grown steps fault step sound some (inr (inr (inr (g, middle, next ∷ rest, now, is, reaches, stops)))) =
    let here : AreSound (next ∷ rest) = sound_behind (Ok (Begin g) ∷ middle) (next ∷ rest) steps is sound in
    let all : steps ++ step ∷ [] ≡ Ok (Begin g) ∷ (middle ++ (next ∷ (rest ++ step ∷ []))) = ap (λ (xs : List LogStep). xs ++ step ∷ []) is ∙ ap (λ (xs : List LogStep). Ok (Begin g) ∷ xs) (append_assoc middle (next ∷ rest) (step ∷ [])) in
    record {
      more = [];
      end = Some fault;
      turns = stays step fault (turn_of-fault now next fault here.0 stops);
      are = (not_nil steps step, inr (inr (inr (g, middle, next ∷ (rest ++ step ∷ []), now, all, reaches, stops))));
    }

grown : (steps : List LogStep) (items : List TransactionValue) (fault : Option GroupFault) (step : LogStep) → AreSound steps → Are steps items fault → Grown steps items fault step
grown steps [] None step sound none =
    let all : steps ++ step ∷ [] ≡ step ∷ [] = ap (λ (xs : List LogStep). xs ++ step ∷ []) none in
    let first = first_of step in
    record { more = []; end = first.0; turns = (refl, first.1); are = rw all first.2 }
grown steps [] (Some fault) step sound (some, no_more) = fault_grown steps fault step sound some no_more
grown steps (t ∷ items) fault step sound (front, rest, parts, is, others) =
    let behind : Grown rest items fault step = grown rest items fault step (sound_behind front rest steps parts sound) others in
    let all : steps ++ step ∷ [] ≡ front ++ (rest ++ step ∷ []) = ap (λ (xs : List LogStep). xs ++ step ∷ []) parts ∙ append_assoc front rest (step ∷ []) in
    record { more = behind.more; end = behind.end; turns = behind.turns; are = (front, rest ++ step ∷ [], all, is, behind.are) }

-- the same of what is read
record GrownBy (old new : Reading TransactionValue GroupFault) (step : LogStep) : Type 0 where
  pub more : List TransactionValue
  pub end : Option GroupFault
  pub turns : TurnsTo step old.fault more end
  pub is : new ≡ record { items = old.items ++ more; fault = end }

grown_by : (steps : List LogStep) (step : LogStep) → AreSound steps → GrownBy (transactions_of steps) (transactions_of (steps ++ step ∷ [])) step
grown_by steps step sound =
    let old : Reading TransactionValue GroupFault = transactions_of steps in
    let h : Grown steps old.items old.fault step = grown steps old.items old.fault step sound (spells-reading IsTransaction NoTransaction transaction_at transaction_reader steps) in
    record {
      more = h.more;
      end = h.end;
      turns = h.turns;
      is = only_reading IsTransaction NoTransaction transaction_at transaction_reader (steps ++ step ∷ []) (old.items ++ h.more) h.end h.are;
    }

-- ---- one event more

record_is : (r : Reading TransactionValue GroupFault) (fault : Option GroupFault) → r.fault ≡ fault → r ≡ record { items = r.items; fault = fault }
record_is r fault e = rw (sym e) refl

module _ (old new : Reading TransactionValue GroupFault) (more : List TransactionValue) (end : Option GroupFault) (is : new ≡ record { items = old.items ++ more; fault = end }) where
  -- no transaction more, and this end
  no_more : more ≡ [] → (fault : Option GroupFault) → end ≡ fault → new ≡ record { items = old.items; fault = fault }
  no_more none fault e = is ∙ rw (none, e) (ap (λ (items : List TransactionValue). record { items = items; fault = fault }) (append-nil old.items))

  same : more ≡ [] → end ≡ old.fault → new ≡ old
  same none e = no_more none old.fault e

  within_goes : (step : LogStep) → IsSoundStep step → old.fault ≡ Some Unended → WithinOne step more end → GoesOn old new
  within_goes (Ok step) sound going (inl (none, e)) = inl (same none (e ∙ sym going))
  within_goes (Ok step) sound going (inr (inl (t, one, e))) = inr (inr (inr (going, t, is ∙ rw (one, e) refl)))
  within_goes (Ok step) sound going (inr (inr (none, fault, of_event, e))) = inr (inr (inl (rw going tt, fault, of_event, no_more none (Some fault) e)))
  within_goes (Err fault) sound going (none, e) = inr (inr (inl (rw going tt, fault, sound, no_more none (Some fault) e)))

  first_goes : (step : LogStep) → IsSoundStep step → old.fault ≡ None → more ≡ [] → FirstOf step end → GoesOn old new
  first_goes (Ok (Begin g)) sound rests none e = inr (inl (rests, no_more none (Some Unended) e))
  first_goes (Ok (Map m)) sound rests none e = inr (inr (inl (rw rests tt, Outside, tt, no_more none (Some Outside) e)))
  first_goes (Ok (Rows kind head)) sound rests none e = inr (inr (inl (rw rests tt, Outside, tt, no_more none (Some Outside) e)))
  first_goes (Ok (Ends ending)) sound rests none e = inr (inr (inl (rw rests tt, Outside, tt, no_more none (Some Outside) e)))
  first_goes (Ok (Said s q)) sound rests none e = inr (inr (inl (rw rests tt, Outside, tt, no_more none (Some Outside) e)))
  first_goes (Err fault) sound rests none e = inr (inr (inl (rw rests tt, fault, sound, no_more none (Some fault) e)))

  step_goes : (step : LogStep) → IsSoundStep step → (fault : Option GroupFault) → old.fault ≡ fault → TurnsTo step fault more end → GoesOn old new
  step_goes step sound None e (none, first) = first_goes step sound e none first
  step_goes step sound (Some Unended) e within = within_goes step sound e within
  step_goes step sound (Some fault) e (none, ends) = inl (same none (ends ∙ sym e))

  -- what isn't read behind the last event
  end_goes : (unread : EventFault) (fault : Option GroupFault) → old.fault ≡ fault → ((other : GroupFault) → fault ≡ Some other → (other ≡ Unended) ⊎ IsOfEvent other) → TurnsTo (Err (Event unread)) fault more end → EndsAs old (Some unread) new
  end_goes unread None e known (none, first) = inl (rw e tt, no_more none (Some (Event unread)) first)
  end_goes unread (Some other) e known h = elim (known other refl) [
    | inl going ↦ let within = rw going at h in inl (rw (e, going) tt, no_more within.0 (Some (Event unread)) within.1)
    | inr of_event ↦ let stay = stayed (Err (Event unread)) other more end of_event h in inr (other, of_event, e, same stay.0 (stay.1 ∙ sym e))
  ]

put-append : (r : Result (Option StepValue) GroupFault) (front rest : List LogStep) → put_step r (front ++ rest) ≡ put_step r front ++ rest
put-append (Ok None) front rest = refl
put-append (Ok (Some step)) front rest = refl
put-append (Err fault) front rest = refl

steps-append : (front rest : List LogEvent) (end : Option EventFault) → steps_in (front ++ rest) end ≡ steps_in front None ++ steps_in rest end
unfolding steps_in
steps-append [] rest end = refl
steps-append (event ∷ front) rest end = ap (put_step (step_of event)) (steps-append front rest end) ∙ put-append (step_of event) (steps_in front None) (steps_in rest end)

steps-one : (event : LogEvent) → steps_in (event ∷ []) None ≡ put_step (step_of event) []
unfolding steps_in
steps-one event = refl

steps-fault : (fault : EventFault) → steps_in [] (Some fault) ≡ Err (Event fault) ∷ []
unfolding steps_in
steps-fault fault = refl

steps-none : steps_in [] None ≡ []
unfolding steps_in
steps-none = refl

take_more : {A : Type 0} (items : List A) (many : ℕ) → many < length items → (x : A) × (take (many + 1) items ≡ take many items ++ x ∷ [])
take_more [] many less = absurd (omega (arith, less))
take_more (x ∷ items) zero less = (x, refl)
take_more (x ∷ items) (suc many) less =
    let next = take_more items many (omega (arith, less)) in
    let more : suc many + 1 ≡ suc (many + 1) = omega arith in
    (next.0, ap (λ (k : ℕ). take k (x ∷ items)) more ∙ ap (λ xs. x ∷ xs) next.1)

event_goes : (events : List LogEvent) (event : LogEvent) (r : Result (Option StepValue) GroupFault) → step_of event ≡ r
    → GoesOn (transactions_of (steps_in events None)) (transactions_of (steps_in events None ++ put_step r []))
unfolding step_of
event_goes events event (Ok None) e = inl (ap transactions_of (append-nil (steps_in events None)))
event_goes events event (Ok (Some step)) e =
    let steps : List LogStep = steps_in events None in
    let h = grown_by steps (Ok step) (steps-sound events) in
    step_goes (transactions_of steps) (transactions_of (steps ++ Ok step ∷ [])) h.more h.end h.is (Ok step) tt (transactions_of steps).fault refl h.turns
event_goes events event (Err fault) e =
    let steps : List LogStep = steps_in events None in
    let h = grown_by steps (Err fault) (steps-sound events) in
    let sound : IsOfEvent fault = step_fault (class_of event.kind event.flags) event.body fault e in
    step_goes (transactions_of steps) (transactions_of (steps ++ Err fault ∷ [])) h.more h.end h.is (Err fault) sound (transactions_of steps).fault refl h.turns

pub goes_on : (events : List LogEvent) (many : ℕ) → GoesOn (told_by events many) (told_by events (many + 1))
goes_on events many = elim (cases_lt many (length events)) [
  | inl less ↦
      let next = take_more events many less in
      let steps : steps_in (take (many + 1) events) None ≡ steps_in (take many events) None ++ put_step (step_of next.0) [] =
      ap (λ (xs : List LogEvent). steps_in xs None) next.1 ∙ steps-append (take many events) (next.0 ∷ []) None ∙ ap (λ (xs : List LogStep). steps_in (take many events) None ++ xs) (steps-one next.0) in
      rw steps (event_goes (take many events) next.0 (step_of next.0) refl)
  | inr all ↦
      let before : take many events ≡ events = take_all many events all in
      let behind : take (many + 1) events ≡ events = take_all (many + 1) events (omega (arith, all)) in
      inl (ap (λ (xs : List LogEvent). transactions_of (steps_in xs None)) (behind ∙ sym before))
]

pub told_first : (events : List LogEvent) → told_by events 0 ≡ record { items = []; fault = None }
told_first events = ap transactions_of steps-none ∙ reading-none transaction_at

-- a fault so far is that of an event, or the last transaction is open
known_on : (old new : Reading TransactionValue GroupFault) (fault : GroupFault) → ((other : GroupFault) → old.fault ≡ Some other → (other ≡ Unended) ⊎ IsOfEvent other) → GoesOn old new → new.fault ≡ Some fault → (fault ≡ Unended) ⊎ IsOfEvent fault
known_on old new fault known (inl same) e = known fault (ap (λ (r : Reading TransactionValue GroupFault). r.fault) (sym same) ∙ e)
known_on old new fault known (inr (inl (rests, is))) e = let f = rw is at e in inl cc
known_on old new fault known (inr (inr (inl (goes, other, of_event, is)))) e = let f : ◌≡◌ {A = Option GroupFault} (Some other) (Some fault) = rw is at e in inr (is_of other fault of_event cc)
known_on old new fault known (inr (inr (inr (going, t, is)))) e = let f = rw is at e in cc

pub known : (events : List LogEvent) (many : ℕ) (fault : GroupFault) → (told_by events many).fault ≡ Some fault → (fault ≡ Unended) ⊎ IsOfEvent fault
known events zero fault e = let f = ap (λ (r : Reading TransactionValue GroupFault). r.fault) (sym (told_first events)) ∙ e in cc
known events (suc many) fault e =
    let one : suc many ≡ many + 1 = omega arith in
    known_on (told_by events many) (told_by events (many + 1)) fault (known events many) (goes_on events many) (ap (λ (k : ℕ). (told_by events k).fault) (sym one) ∙ e)

pub ends_as : (events : List LogEvent) (end : Option EventFault) → EndsAs (told_by events (length events)) end (transactions_of (steps_in events end))
ends_as events None = ap (λ (xs : List LogEvent). transactions_of (steps_in xs None)) (sym (take_all (length events) events (omega arith)))
ends_as events (Some unread) =
    let all : take (length events) events ≡ events = take_all (length events) events (omega arith) in
    let steps : List LogStep = steps_in events None in
    let whole : steps_in events (Some unread) ≡ steps ++ Err (Event unread) ∷ [] =
    ap (λ (xs : List LogEvent). steps_in xs (Some unread)) (sym (append-nil events)) ∙ steps-append events [] (Some unread) ∙ ap (λ (xs : List LogStep). steps ++ xs) (steps-fault unread) in
    let h = grown_by steps (Err (Event unread)) (steps-sound events) in
    let faults = known events (length events) in
    rw (all, whole) (end_goes (transactions_of steps) (transactions_of (steps ++ Err (Event unread) ∷ [])) h.more h.end h.is unread (transactions_of steps).fault refl (rw all at faults) h.turns)

pub events-go_on : (events : Reading LogEvent EventFault) → EventsGoOn events
events-go_on events = record { first = told_first events.items; each = goes_on events.items; end = ends_as events.items events.fault }
