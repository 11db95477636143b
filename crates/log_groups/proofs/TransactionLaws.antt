-- The transaction at the front: each answer is right, and each right answer is given.
use Rattle.std.proofs.Common.{◌≡◌, ◌≢◌, ◌+◌, ◌<◌, List, [], ◌∷◌, ◌++◌, length, length-append, append_assoc, Option, None, Some, Result, Ok, Err, refl, sym, ap, ◌∙◌, inl, inr, ◌⊎◌, arith}
use Rattle.std.specs.Option.{option_map}
use Rattle.std.specs.Result.{result_map_both}
use Rattle.list_laws.specs.Outcome.{◌>>=◌}
use Rattle.item_readers.specs.Reading.{Reading}
use Rattle.item_readers.proofs.ReadingLaws.{IsReader, reading-fault, next_none, next_err, next_some}
use Rattle.log_groups.specs.declared.fault.GroupFault.{GroupFault}
use Rattle.log_groups.specs.declared.fault.GroupFault.TheVariants.{Outside, Unended}
use Rattle.log_groups.specs.declared.fault.GroupError.{GroupError}
use Rattle.log_groups.specs.declared.fault.GroupError.TheVariants.{Memory, Fault}
use Rattle.log_groups.specs.Fault.{meant}
use Rattle.log_groups.specs.Calls.{Turns, FindsTransaction, ReadsTransaction, unless_failed, NextTransaction}
use Rattle.log_groups.specs.Step.{GtidValue, EndingValue, StepValue, Begin, Map, Rows, Ends, Said, LogStep}
use Rattle.log_groups.specs.Transaction.{DoneValue, TransactionValue, SoFar, waits_behind, begun, Turn, Goes, Ended, turn_at, turn_of, Reaches, IsTransaction, IsOther, Stops, NoTransaction, by_turn, goes_at, transaction_at, transactions_of}

-- ---- steps one after another

first_step : {A B F : Type 0} (r : Result A F) (step : A → Result B F) (y : B) → r >>= step ≡ Ok y → (x : A) × (r ≡ Ok x) × (step x ≡ Ok y)
first_step (Ok x) step y e = (x, refl, e)
first_step (Err fault) step y e = cc

first_fault : {A B F : Type 0} (r : Result A F) (step : A → Result B F) (fault : F) → r >>= step ≡ Err fault → (r ≡ Err fault) ⊎ ((x : A) × (r ≡ Ok x) × (step x ≡ Err fault))
first_fault (Ok x) step fault e = inr (x, refl, e)
first_fault {A} (Err other) step fault e = inl (ap (λ f. Err f) (same_fault e))
  where
    same_fault : {F : Type 0} {B : Type 0} {f g : F} → ◌≡◌ {A = Result B F} (Err f) (Err g) → f ≡ g
    same_fault e = cc

turns : {A : Type 0} (t : Turn) (go : SoFar → A) (end : List DoneValue → EndingValue → A) (y : A) → by_turn t go end ≡ y
    → ((new : SoFar) × (t ≡ Goes new) × (go new ≡ y)) ⊎ ((changes : List DoneValue) × (ending : EndingValue) × (t ≡ Ended changes ending) × (end changes ending ≡ y))
turns (Goes new) go end y e = inl (new, refl, e)
turns (Ended changes ending) go end y e = inr (changes, ending, refl, e)

-- one step on, and the last one
pub goes-on : (now new : SoFar) (step : LogStep) (steps : List LogStep) → turn_of now step ≡ Ok (Goes new) → goes_at now (step ∷ steps) ≡ goes_at new steps
unfolding goes_at
goes-on now new step steps e = rw e refl

pub goes-ends : (now : SoFar) (step : LogStep) (steps : List LogStep) (changes : List DoneValue) (ending : EndingValue) → turn_of now step ≡ Ok (Ended changes ending) → goes_at now (step ∷ steps) ≡ Ok ((changes, ending), steps)
unfolding goes_at
goes-ends now step steps changes ending e = rw e refl

pub goes-wrong : (now : SoFar) (step : LogStep) (steps : List LogStep) (fault : GroupFault) → turn_of now step ≡ Err fault → goes_at now (step ∷ steps) ≡ Err fault
unfolding goes_at
goes-wrong now step steps fault e = rw e refl

pub goes-none : (now : SoFar) → goes_at now [] ≡ Err Unended
unfolding goes_at
goes-none now = refl

-- ---- behind a position

record Found (now : SoFar) (steps : List LogStep) (x : (List DoneValue × EndingValue) × List LogStep) : Type 0 where
  pub middle : List LogStep
  pub last : LogStep
  pub end : SoFar
  pub is : steps ≡ middle ++ last ∷ x.1
  pub reaches : Reaches now middle end
  pub ends : turn_of end last ≡ Ok (Ended x.0.0 x.0.1)

found_last : (now : SoFar) (step : LogStep) (steps : List LogStep) (changes : List DoneValue) (ending : EndingValue) (x : (List DoneValue × EndingValue) × List LogStep) → turn_of now step ≡ Ok (Ended changes ending)
    → ◌≡◌ {A = Result ((List DoneValue × EndingValue) × List LogStep) GroupFault} (Ok ((changes, ending), steps)) (Ok x) → Found now (step ∷ steps) x
found_last now step steps changes ending x e h =
    let is : x ≡ ((changes, ending), steps) = cc in
    rw is (record { middle = []; last = step; end = now; is = refl; reaches = refl; ends = e })

found_more : (now new : SoFar) (step : LogStep) (steps : List LogStep) (x : (List DoneValue × EndingValue) × List LogStep) → turn_of now step ≡ Ok (Goes new) → Found new steps x → Found now (step ∷ steps) x
found_more now new step steps x e h = record {
  middle = step ∷ h.middle;
  last = h.last;
  end = h.end;
  is = ap (λ (xs : List LogStep). step ∷ xs) h.is;
  reaches = (new, e, h.reaches);
  ends = h.ends;
}

found_behind : (now : SoFar) (steps : List LogStep) (x : (List DoneValue × EndingValue) × List LogStep) → goes_at now steps ≡ Ok x → Found now steps x
unfolding goes_at
found_behind now [] x e = cc
found_behind now (step ∷ steps) x e =
    let first = first_step (turn_of now step) (λ t. by_turn t (λ new. goes_at new steps) (λ changes ending. Ok ((changes, ending), steps))) x e in
    elim (turns first.0 (λ new. goes_at new steps) (λ changes ending. Ok ((changes, ending), steps)) (Ok x) first.2) [
      | inl g ↦ found_more now g.0 step steps x (first.1 ∙ ap (λ (t : Turn). Ok t) g.1) (found_behind g.0 steps x g.2)
      | inr d ↦ found_last now step steps d.0 d.1 x (first.1 ∙ ap (λ (t : Turn). Ok t) d.2) d.3
    ]

finds_behind : (now : SoFar) (middle : List LogStep) (last : LogStep) (end : SoFar) (rest : List LogStep) (changes : List DoneValue) (ending : EndingValue) → Reaches now middle end → turn_of end last ≡ Ok (Ended changes ending)
    → goes_at now (middle ++ last ∷ rest) ≡ Ok ((changes, ending), rest)
finds_behind now [] last end rest changes ending reaches e = goes-ends now last rest changes ending (ap (λ (i : SoFar). turn_of i last) (sym reaches) ∙ e)
finds_behind now (step ∷ middle) last end rest changes ending (new, turned, reaches) e = goes-on now new step (middle ++ last ∷ rest) turned ∙ finds_behind new middle last end rest changes ending reaches e

record Refused (now : SoFar) (steps : List LogStep) (fault : GroupFault) : Type 0 where
  pub middle : List LogStep
  pub rest : List LogStep
  pub end : SoFar
  pub is : steps ≡ middle ++ rest
  pub reaches : Reaches now middle end
  pub stops : Stops end rest fault

refused_more : (now new : SoFar) (step : LogStep) (steps : List LogStep) (fault : GroupFault) → turn_of now step ≡ Ok (Goes new) → Refused new steps fault → Refused now (step ∷ steps) fault
refused_more now new step steps fault e h = record {
  middle = step ∷ h.middle;
  rest = h.rest;
  end = h.end;
  is = ap (λ (xs : List LogStep). step ∷ xs) h.is;
  reaches = (new, e, h.reaches);
  stops = h.stops;
}

refused_behind : (now : SoFar) (steps : List LogStep) (fault : GroupFault) → goes_at now steps ≡ Err fault → Refused now steps fault
unfolding goes_at
refused_behind now [] fault e = record { middle = []; rest = []; end = now; is = refl; reaches = refl; stops = cc }
refused_behind now (step ∷ steps) fault e =
    elim (first_fault (turn_of now step) (λ t. by_turn t (λ new. goes_at new steps) (λ changes ending. Ok ((changes, ending), steps))) fault e) [
      | inl wrong ↦ record { middle = []; rest = step ∷ steps; end = now; is = refl; reaches = refl; stops = wrong }
      | inr first ↦ elim (turns first.0 (λ new. goes_at new steps) (λ changes ending. Ok ((changes, ending), steps)) (Err fault) first.2) [
        | inl g ↦ refused_more now g.0 step steps fault (first.1 ∙ ap (λ (t : Turn). Ok t) g.1) (refused_behind g.0 steps fault g.2)
        | inr d ↦ let none = d.3 in cc
      ]
    ]

stops_there : (now : SoFar) (rest : List LogStep) (fault : GroupFault) → Stops now rest fault → goes_at now rest ≡ Err fault
stops_there now [] fault e = goes-none now ∙ ap (λ (f : GroupFault). Err f) (sym e)
stops_there now (step ∷ steps) fault e = goes-wrong now step steps fault e

refuses_behind : (now : SoFar) (middle rest : List LogStep) (end : SoFar) (fault : GroupFault) → Reaches now middle end → Stops end rest fault → goes_at now (middle ++ rest) ≡ Err fault
refuses_behind now [] rest end fault reaches stops = stops_there now rest fault (rw (sym reaches) stops)
refuses_behind now (step ∷ middle) rest end fault (new, turned, reaches) stops = goes-on now new step (middle ++ rest) turned ∙ refuses_behind new middle rest end fault reaches stops

-- ---- the transaction at the front

abbrev as_transaction : GtidValue → (List DoneValue × EndingValue) × List LogStep → TransactionValue
as_transaction g x = record { gtid = g; changes = x.0.0; ending = x.0.1 }

pub behind-begin : (g : GtidValue) (steps : List LogStep) (x : (List DoneValue × EndingValue) × List LogStep) → goes_at (begun (waits_behind g)) steps ≡ Ok x
    → transaction_at (Ok (Begin g) ∷ steps) ≡ Ok (as_transaction g x, x.1)
unfolding transaction_at
behind-begin g steps x e = rw e refl

pub behind-wrong : (g : GtidValue) (steps : List LogStep) (fault : GroupFault) → goes_at (begun (waits_behind g)) steps ≡ Err fault → transaction_at (Ok (Begin g) ∷ steps) ≡ Err fault
unfolding transaction_at
behind-wrong g steps fault e = rw e refl

-- a front, and the whole of it
record Front (steps : List LogStep) (x : TransactionValue × List LogStep) : Type 0 where
  pub front : List LogStep
  pub is : steps ≡ front ++ x.1
  pub item : IsTransaction front x.0
  pub some : 0 < length front

front_of : (g : GtidValue) (steps : List LogStep) (y : (List DoneValue × EndingValue) × List LogStep) (x : TransactionValue × List LogStep) → Found (begun (waits_behind g)) steps y
    → ◌≡◌ {A = Result (TransactionValue × List LogStep) GroupFault} (Ok (as_transaction g y, y.1)) (Ok x) → Front (Ok (Begin g) ∷ steps) x
front_of g steps y x h e =
    let is : x ≡ (as_transaction g y, y.1) = cc in
    let all : steps ≡ (h.middle ++ h.last ∷ []) ++ y.1 = h.is ∙ sym (append_assoc h.middle (h.last ∷ []) y.1) in
    rw is (record {
      front = Ok (Begin g) ∷ (h.middle ++ h.last ∷ []);
      is = ap (λ (xs : List LogStep). Ok (Begin g) ∷ xs) all;
      item = record { middle = h.middle; last = h.last; end = h.end; is = refl; reaches = h.reaches; ends = h.ends };
      some = omega arith;
    })

front_at : (steps : List LogStep) (x : TransactionValue × List LogStep) → transaction_at steps ≡ Ok x → Front steps x
unfolding transaction_at
front_at [] x e = cc
front_at (Err fault ∷ steps) x e = cc
front_at (Ok (Begin g) ∷ steps) x e =
    let y = first_step (goes_at (begun (waits_behind g)) steps) (λ y. Ok (record { gtid = g; changes = y.0.0; ending = y.0.1 }, y.1)) x e in
    front_of g steps y.0 x (found_behind (begun (waits_behind g)) steps y.0 y.1) y.2
front_at (Ok (Map m) ∷ steps) x e = cc
front_at (Ok (Rows kind h) ∷ steps) x e = cc
front_at (Ok (Ends ending) ∷ steps) x e = cc
front_at (Ok (Said s q) ∷ steps) x e = cc

shorter : (steps : List LogStep) (x : TransactionValue × List LogStep) → transaction_at steps ≡ Ok x → length x.1 < length steps
shorter steps x e =
    let h = front_at steps x e in
    let all : length steps ≡ length h.front + length x.1 = ap length h.is ∙ length-append h.front x.1 in
    omega (arith, h.some)

found : (steps : List LogStep) (x : TransactionValue × List LogStep) → transaction_at steps ≡ Ok x → (front : List LogStep) × (steps ≡ front ++ x.1) × IsTransaction front x.0
found steps x e = let h = front_at steps x e in (h.front, h.is, h.item)

finds : (front rest : List LogStep) (t : TransactionValue) → IsTransaction front t → transaction_at (front ++ rest) ≡ Ok (t, rest)
finds front rest t h =
    let all : front ++ rest ≡ Ok (Begin t.gtid) ∷ (h.middle ++ h.last ∷ rest) =
    ap (λ (xs : List LogStep). xs ++ rest) h.is ∙ ap (λ (xs : List LogStep). Ok (Begin t.gtid) ∷ xs) (append_assoc h.middle (h.last ∷ []) rest) in
    ap transaction_at all ∙ behind-begin t.gtid (h.middle ++ h.last ∷ rest) ((t.changes, t.ending), rest) (finds_behind (begun (waits_behind t.gtid)) h.middle h.last h.end rest t.changes t.ending h.reaches h.ends)

none_by : (g : GtidValue) (steps : List LogStep) (fault : GroupFault) → Refused (begun (waits_behind g)) steps fault → NoTransaction (Ok (Begin g) ∷ steps) fault
none_by g steps fault h = inr (inr (inr (g, h.middle, h.rest, h.end, ap (λ (xs : List LogStep). Ok (Begin g) ∷ xs) h.is, h.reaches, h.stops)))

behind_fault : (g : GtidValue) (r : Result ((List DoneValue × EndingValue) × List LogStep) GroupFault) (fault : GroupFault)
    → ◌≡◌ {A = Result (TransactionValue × List LogStep) GroupFault} (r >>= λ y. Ok (record { gtid = g; changes = y.0.0; ending = y.0.1 }, y.1)) (Err fault) → r ≡ Err fault
behind_fault g (Ok y) fault e = cc
behind_fault g (Err other) fault e = cc

refused : (steps : List LogStep) (fault : GroupFault) → transaction_at steps ≡ Err fault → NoTransaction steps fault
unfolding transaction_at
refused [] fault e = inl (refl, cc)
refused (Err other ∷ steps) fault e = let same : other ≡ fault = cc in inr (inl (steps, rw same refl))
refused (Ok (Begin g) ∷ steps) fault e = none_by g steps fault (refused_behind (begun (waits_behind g)) steps fault (behind_fault g (goes_at (begun (waits_behind g)) steps) fault e))
refused (Ok (Map m) ∷ steps) fault e = inr (inr (inl (Map m, steps, refl, tt, cc)))
refused (Ok (Rows kind h) ∷ steps) fault e = inr (inr (inl (Rows kind h, steps, refl, tt, cc)))
refused (Ok (Ends ending) ∷ steps) fault e = inr (inr (inl (Ends ending, steps, refl, tt, cc)))
refused (Ok (Said s q) ∷ steps) fault e = inr (inr (inl (Said s q, steps, refl, tt, cc)))

pub other_wrong : (step : StepValue) (rest : List LogStep) → IsOther step → transaction_at (Ok step ∷ rest) ≡ Err Outside
unfolding transaction_at
other_wrong (Begin g) rest h = absurd h
other_wrong (Map m) rest h = refl
other_wrong (Rows kind head) rest h = refl
other_wrong (Ends ending) rest h = refl
other_wrong (Said s q) rest h = refl

pub unread_wrong : (rest : List LogStep) (fault : GroupFault) → transaction_at (Err fault ∷ rest) ≡ Err fault
unfolding transaction_at
unread_wrong rest fault = refl

empty_wrong : transaction_at [] ≡ Err Unended
unfolding transaction_at
empty_wrong = refl

refuses : (steps : List LogStep) (fault : GroupFault) → NoTransaction steps fault → transaction_at steps ≡ Err fault
refuses steps fault (inl (none, unended)) = ap transaction_at none ∙ empty_wrong ∙ ap (λ (f : GroupFault). Err f) (sym unended)
refuses steps fault (inr (inl (rest, is))) = ap transaction_at is ∙ unread_wrong rest fault
refuses steps fault (inr (inr (inl (step, rest, is, other, outside)))) = ap transaction_at is ∙ other_wrong step rest other ∙ ap (λ (f : GroupFault). Err f) (sym outside)
refuses steps fault (inr (inr (inr (g, middle, rest, now, is, reaches, stops)))) =
    ap transaction_at is ∙ behind-wrong g (middle ++ rest) fault (refuses_behind (begun (waits_behind g)) middle rest now fault reaches stops)

pub transaction_reader : IsReader IsTransaction NoTransaction transaction_at
transaction_reader = record {
  takes = record { shorter = shorter };
  found = found;
  finds = finds;
  refused = refused;
  refuses = refuses;
}

-- ---- calls

-- what a call says that took a step
pub turn_goes : {X : Type 0} (view : X → EndingValue) (definition : Result Turn GroupFault) (new : SoFar) (r : Result (Option X) GroupError) → Turns definition new (result_map_both (λ e. option_map view e) (λ e. e) r) → r ≡ Ok None → definition ≡ Ok (Goes new)
turn_goes view definition new r turned e = rw e at turned

pub turn_ends : {X : Type 0} (view : X → EndingValue) (definition : Result Turn GroupFault) (new : SoFar) (r : Result (Option X) GroupError) (x : X) → Turns definition new (result_map_both (λ e. option_map view e) (λ e. e) r) → r ≡ Ok (Some x)
    → definition ≡ Ok (Ended new.kept.changes (view x))
turn_ends view definition new r x turned e = rw e at turned

-- a step that wasn't taken
pub turn_refused : (g : GtidValue) (all left new_left : List LogStep) (now new : SoFar) (step : StepValue) (error : GroupError) (after : List LogStep) → goes_at now left ≡ goes_at (begun (waits_behind g)) all → left ≡ Ok step ∷ new_left
    → Turns (turn_at now step) new (Err error) → FindsTransaction (Ok (Begin g) ∷ all) (Err error) after
turn_refused g all left new_left now new step Memory after so_far front turned = tt
turn_refused g all left new_left now new step (Fault fault) after so_far front turned = behind-wrong g all fault (sym so_far ∙ ap (goes_at now) front ∙ goes-wrong now (Ok step) new_left fault turned)

-- a step that isn't read
pub step_refused : (g : GtidValue) (all left rest : List LogStep) (now : SoFar) (fault : GroupFault) → goes_at now left ≡ goes_at (begun (waits_behind g)) all → left ≡ Err fault ∷ rest → transaction_at (Ok (Begin g) ∷ all) ≡ Err fault
step_refused g all left rest now fault so_far front = behind-wrong g all fault (sym so_far ∙ ap (goes_at now) front ∙ goes-wrong now (Err fault) rest fault refl)

-- the end of the log, and of the transaction
pub ended_early : (g : GtidValue) (all left : List LogStep) (now : SoFar) → goes_at now left ≡ goes_at (begun (waits_behind g)) all → left ≡ [] → transaction_at (Ok (Begin g) ∷ all) ≡ Err Unended
ended_early g all left now so_far none = behind-wrong g all Unended (sym so_far ∙ ap (goes_at now) none ∙ goes-none now)

pub ended_whole : (g : GtidValue) (all left new_left : List LogStep) (now : SoFar) (step : StepValue) (changes found : List DoneValue) (ending : EndingValue) → goes_at now left ≡ goes_at (begun (waits_behind g)) all → left ≡ Ok step ∷ new_left
    → turn_at now step ≡ Ok (Ended changes ending) → found ≡ changes → transaction_at (Ok (Begin g) ∷ all) ≡ Ok (record { gtid = g; changes = found; ending = ending }, new_left)
ended_whole g all left new_left now step changes found ending so_far front turned is =
    behind-begin g all ((changes, ending), new_left) (sym so_far ∙ ap (goes_at now) front ∙ goes-ends now (Ok step) new_left changes ending turned)
    ∙ ap (λ (cs : List DoneValue). Ok (record { gtid = g; changes = cs; ending = ending }, new_left)) (sym is)

pub goes_further : (now new : SoFar) (left new_left : List LogStep) (step : StepValue) (all : Result ((List DoneValue × EndingValue) × List LogStep) GroupFault) → goes_at now left ≡ all → left ≡ Ok step ∷ new_left → turn_at now step ≡ Ok (Goes new) → goes_at new new_left ≡ all
goes_further now new left new_left step all so_far front turned = sym (ap (goes_at now) front ∙ goes-on now new (Ok step) new_left turned) ∙ so_far

-- the first step of a transaction isn't read, or what stands behind it isn't one
pub none_there : (old rest : List LogStep) (fault : GroupFault) → old ≡ Err fault ∷ rest → (old ≢ []) × (transaction_at old ≡ Err fault)
none_there old rest fault e = (λ none. cc, ap transaction_at e ∙ unread_wrong rest fault)

pub behind_first : (old steps : List LogStep) (step : StepValue) (error : GroupError) (after : List LogStep) → old ≡ Ok step ∷ steps → FindsTransaction (Ok step ∷ steps) (Err error) after → ReadsTransaction old (Err error) after
behind_first old steps step Memory after front h = tt
behind_first old steps step (Fault fault) after front h = (λ none. cc, ap transaction_at front ∙ h)

-- the next transaction of a reader, of which none was refused so far
pub next_found : (failed : Option GroupFault) (steps left : List LogStep) (old : Reading TransactionValue GroupFault) (r : Option TransactionValue) → failed ≡ None → unless_failed failed (transactions_of steps) ≡ old → ReadsTransaction steps (Ok r) left
    → NextTransaction old (Ok r) (unless_failed failed (transactions_of left))
next_found failed steps left old None is seen (none, same) =
    let plain : transactions_of steps ≡ old = ap (λ (f : Option GroupFault). unless_failed f (transactions_of steps)) (sym is) ∙ seen in
    let end = next_none transaction_at steps old none plain in
    (end.0, end.1, ap (λ (f : Option GroupFault). unless_failed f (transactions_of left)) is ∙ ap transactions_of same ∙ plain)
next_found failed steps left old (Some t) is seen e =
    let plain : transactions_of steps ≡ old = ap (λ (f : Option GroupFault). unless_failed f (transactions_of steps)) (sym is) ∙ seen in
    let next = next_some transaction_at transaction_reader.takes steps old (t, left) e plain in
    let behind : unless_failed failed (transactions_of left) ≡ transactions_of left = ap (λ (f : Option GroupFault). unless_failed f (transactions_of left)) is in
    (next.0 ∙ ap (λ (r : Reading TransactionValue GroupFault). t ∷ r.items) (sym behind), next.1 ∙ ap (λ (r : Reading TransactionValue GroupFault). r.fault) (sym behind))

pub next_refused : (failed left_failed : Option GroupFault) (steps after : List LogStep) (left old : Reading TransactionValue GroupFault) (error : GroupError) → failed ≡ None → unless_failed failed (transactions_of steps) ≡ old → left_failed ≡ meant error
    → ReadsTransaction steps (Err error) after → NextTransaction old (Err error) (unless_failed left_failed left)
next_refused failed left_failed steps after left old Memory is seen by h = tt
next_refused failed left_failed steps after left old (Fault fault) is seen by (some, e) =
    let plain : transactions_of steps ≡ old = ap (λ (f : Option GroupFault). unless_failed f (transactions_of steps)) (sym is) ∙ seen in
    let wrong = next_err transaction_at steps old fault some e plain in
    let whole : old ≡ record { items = []; fault = Some fault } = sym plain ∙ reading-fault transaction_at steps fault some e in
    (wrong.0, wrong.1, ap (λ (f : Option GroupFault). unless_failed f left) by ∙ sym whole)
