-- With which event a transaction begins, and with which one a log's transactions are at fault.
use Rattle.std.proofs.Common.{◌≡◌, ◌⊎◌, inl, inr, ℕ, zero, suc, ◌+◌, ◌<◌, ◌≤◌, List, [], ◌∷◌, length, length-append, Option, None, Some, refl, sym, ap, ◌∙◌, arith}
use Rattle.std.proofs.lemmas.Bool.{cases_lt}
use Rattle.item_readers.specs.Reading.{Reading}
use Rattle.log_events.specs.declared.fault.EventFault.{EventFault}
use Rattle.log_events.specs.Event.{LogEvent}
use Rattle.log_groups.specs.declared.fault.GroupFault.{GroupFault}
use Rattle.log_groups.specs.declared.fault.GroupFault.TheVariants.{Event, Unended, Twice, NotPrepared, StillPrepared}
use Rattle.log_groups.specs.Step.{steps_of}
use Rattle.log_groups.specs.Transaction.{TransactionValue, transactions_of}
use Rattle.log_groups.specs.Cuts.{told_by, IsOfEvent, GoesOn, EndsAs, BeginsBehind, FailsBehind, StandsBehind, TransactionsStand}
use Rattle.log_groups.proofs.CutLaws.{goes_on, told_first, known, ends_as}

-- so many transactions are whole, and behind them one has begun
abbrev HasBegun : Reading TransactionValue GroupFault → ℕ → Type 0
HasBegun r n = (n < length r.items) ⊎ ((n ≡ length r.items) × (r.fault ≡ Some Unended))

abbrev items_of : Reading TransactionValue GroupFault → List TransactionValue
items_of r = r.items

abbrev fault_of : Reading TransactionValue GroupFault → Option GroupFault
fault_of r = r.fault

not_of_event : (fault : GroupFault) → IsOfEvent fault → ◌≡◌ {A = Option GroupFault} (Some fault) (Some Unended) → ⊥
not_of_event Unended h e = h
not_of_event fault h e = cc

begins_on : (events : List LogEvent) (many n : ℕ) → many < length events → (HasBegun (told_by events many) n → BeginsBehind events n) → GoesOn (told_by events many) (told_by events (many + 1)) → HasBegun (told_by events (many + 1)) n → BeginsBehind events n
begins_on events many n less sofar (inl same) (inl below) = sofar (inl (omega (arith, below, ap (λ r. length (items_of r)) same)))
begins_on events many n less sofar (inl same) (inr (all, going)) = sofar (inr (all ∙ ap (λ r. length (items_of r)) same, ap fault_of (sym same) ∙ going))
begins_on events many n less sofar (inr (inl (rests, is))) (inl below) = sofar (inl (omega (arith, below, ap (λ r. length (items_of r)) is)))
begins_on events many n less sofar (inr (inl (rests, is))) (inr (all, going)) =
    let as_many : length (told_by events (many + 1)).items ≡ length (told_by events many).items = ap (λ r. length (items_of r)) is in
    record { many = many; within = less; before = (sym as_many ∙ sym all, rests); behind = (sym all, going) }
begins_on events many n less sofar (inr (inr (inl (goes, fault, of_event, is)))) (inl below) = sofar (inl (omega (arith, below, ap (λ r. length (items_of r)) is)))
begins_on events many n less sofar (inr (inr (inl (goes, fault, of_event, is)))) (inr (all, going)) = absurd (not_of_event fault of_event (sym (ap fault_of is) ∙ going))
begins_on events many n less sofar (inr (inr (inr (going, t, is)))) (inl below) =
    let one_more : length (told_by events (many + 1)).items ≡ length (told_by events many).items + 1 = ap (λ r. length (items_of r)) is ∙ length-append (told_by events many).items (t ∷ []) in
    elim (cases_lt n (length (told_by events many).items)) [
      | inl before ↦ sofar (inl before)
      | inr last ↦ sofar (inr (omega (arith, below, last, one_more), going))
    ]
begins_on events many n less sofar (inr (inr (inr (going, t, is)))) (inr (all, opened)) = let none : ◌≡◌ {A = Option GroupFault} None (Some Unended) = sym (ap fault_of is) ∙ opened in cc

begins_by : (events : List LogEvent) (many n : ℕ) → many ≤ length events → HasBegun (told_by events many) n → BeginsBehind events n
begins_by events zero n within (inl below) = let none : length (told_by events 0).items ≡ 0 = ap (λ r. length (items_of r)) (told_first events) in absurd (omega (arith, below, none))
begins_by events zero n within (inr (all, going)) = let none : ◌≡◌ {A = Option GroupFault} None (Some Unended) = sym (ap fault_of (told_first events)) ∙ going in cc
begins_by events (suc many) n within begun =
    let one : suc many ≡ many + 1 = omega arith in
    let here = rw one at begun in
    begins_on events many n (omega (arith, within)) (λ h. begins_by events many n (omega (arith, within)) h) (goes_on events many) here

-- ---- the event at fault

fails_on : (events : List LogEvent) (many : ℕ) (fault : GroupFault) → many < length events → IsOfEvent fault → ((told_by events many).fault ≡ Some fault → FailsBehind events (length (told_by events many).items) fault)
    → GoesOn (told_by events many) (told_by events (many + 1)) → (told_by events (many + 1)).fault ≡ Some fault → FailsBehind events (length (told_by events (many + 1)).items) fault
fails_on events many fault less of_event sofar (inl same) e = rw same (sofar (ap fault_of (sym same) ∙ e))
fails_on events many fault less of_event sofar (inr (inl (rests, is))) e = absurd (not_of_event fault of_event (sym e ∙ ap fault_of is))
fails_on events many fault less of_event sofar (inr (inr (inl (goes, other, of_other, is)))) e = record {
  many = many;
  within = less;
  end = (told_by events many).fault;
  sofar = goes;
  before = (sym (ap (λ r. length (items_of r)) is), refl);
  behind = (refl, e);
}
fails_on events many fault less of_event sofar (inr (inr (inr (going, t, is)))) e = let none : ◌≡◌ {A = Option GroupFault} None (Some fault) = sym (ap fault_of is) ∙ e in cc

fails_by : (events : List LogEvent) (many : ℕ) (fault : GroupFault) → many ≤ length events → IsOfEvent fault → (told_by events many).fault ≡ Some fault → FailsBehind events (length (told_by events many).items) fault
fails_by events zero fault within of_event e = let none : ◌≡◌ {A = Option GroupFault} None (Some fault) = sym (ap fault_of (told_first events)) ∙ e in cc
fails_by events (suc many) fault within of_event e =
    let one : suc many ≡ many + 1 = omega arith in
    let here = rw one at e in
    rw one (fails_on events many fault (omega (arith, within)) of_event (λ h. fails_by events many fault (omega (arith, within)) of_event h) (goes_on events many) here)

-- ---- of a log

stands_by : (events : Reading LogEvent EventFault) (n : ℕ) (fault : GroupFault) → IsOfEvent fault → FailsBehind events.items n fault → StandsBehind events n fault
stands_by events n (Event fault) of_event h = absurd of_event
stands_by events n Unended of_event h = absurd of_event
stands_by events n Twice of_event h = absurd of_event
stands_by events n NotPrepared of_event h = absurd of_event
stands_by events n StillPrepared of_event h = absurd of_event
stands_by events n fault of_event h = h

module _ (events : Reading LogEvent EventFault) where
  abbrev all : Reading TransactionValue GroupFault
  all = told_by events.items (length events.items)

  abbrev whole : Reading TransactionValue GroupFault
  whole = transactions_of (steps_of events)

  -- the fault of the events so far
  fault_stands : (fault : GroupFault) → all.fault ≡ Some fault → (fault ≡ Unended) ⊎ IsOfEvent fault → (fault ≡ Unended → events.fault ≡ None) → StandsBehind events (length all.items) fault
  fault_stands fault e (inl going) none = rw going (none going, begins_by events.items (length events.items) (length all.items) (omega arith) (inr (refl, e ∙ ap (λ (f : GroupFault). Some f) going)))
  fault_stands fault e (inr of_event) none = stands_by events (length all.items) fault of_event (fails_by events.items (length events.items) fault (omega arith) of_event e)

  as_many : (end : Option EventFault) → EndsAs all end whole → whole.items ≡ all.items
  as_many None same = ap items_of same
  as_many (Some unread) (inl (goes, is)) = ap items_of is
  as_many (Some unread) (inr (other, of_event, e, same)) = ap items_of same

  fails : (end : Option EventFault) → events.fault ≡ end → EndsAs all end whole → (fault : GroupFault) → whole.fault ≡ Some fault → StandsBehind events (length all.items) fault
  fails None none same fault e =
      let here : all.fault ≡ Some fault = sym (ap fault_of same) ∙ e in
      fault_stands fault here (known events.items (length events.items) fault here) (λ going. none)
  fails (Some unread) some (inl (goes, is)) fault e =
      let same : ◌≡◌ {A = Option GroupFault} (Some fault) (Some (Event unread)) = sym e ∙ ap fault_of is in
      let fault_is : fault ≡ Event unread = cc in
      rw fault_is some
  fails (Some unread) some (inr (other, of_event, e, same)) fault f =
      let here : all.fault ≡ Some fault = sym (ap fault_of same) ∙ f in
      let equal : ◌≡◌ {A = Option GroupFault} (Some other) (Some fault) = sym e ∙ here in
      let fault_is : other ≡ fault = cc in
      let of_fault : IsOfEvent fault = rw (sym fault_is) of_event in
      fault_stands fault here (inr of_fault) (λ going. absurd (not_of_event fault of_fault (ap (λ (g : GroupFault). Some g) going)))

  stand : TransactionsStand events
  stand =
      let ends : EndsAs all events.fault whole = ends_as events.items events.fault in
      let same : whole.items ≡ all.items = as_many events.fault ends in
      record {
        begins = λ n below. begins_by events.items (length events.items) n (omega arith) (inl (rw same at below));
        fails = λ fault e. rw same (fails events.fault refl ends fault e);
      }

pub transactions-stand : (events : Reading LogEvent EventFault) → TransactionsStand events
transactions-stand events = stand events
