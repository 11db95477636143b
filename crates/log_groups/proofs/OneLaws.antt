-- A transaction begins with one event alone, and one alone is at fault.
use Rattle.std.proofs.Common.{◌≡◌, inl, inr, ℕ, zero, suc, ◌+◌, ◌-◌, ◌*◌, ◌<◌, ◌≤◌, List, [], ◌∷◌, ◌++◌, length, length-append, Option, None, Some, sym, ap, ◌∙◌, arith}
use Rattle.std.proofs.lemmas.Bool.{cases_lt}
use Rattle.item_readers.specs.Reading.{Reading}
use Rattle.log_events.specs.Event.{LogEvent}
use Rattle.log_groups.specs.declared.fault.GroupFault.{GroupFault}
use Rattle.log_groups.specs.declared.fault.GroupFault.TheVariants.{Unended}
use Rattle.log_groups.specs.Transaction.{TransactionValue}
use Rattle.log_groups.specs.Cuts.{told_by, MayGoOn, IsOfEvent, GoesOn, BeginsBehind, FailsBehind, PlacesAreOne}
use Rattle.log_groups.proofs.CutLaws.{goes_on}

-- how far a reading is: two for each transaction, and one where the next has begun
abbrev begun : Option GroupFault → ℕ
begun None = 0
begun (Some fault) = 1

abbrev rank : Reading TransactionValue GroupFault → ℕ
rank r = 2 * length r.items + begun r.fault

abbrev fault_of : Reading TransactionValue GroupFault → Option GroupFault
fault_of r = r.fault

at_most : (fault : Option GroupFault) → begun fault ≤ 1
at_most None = omega arith
at_most (Some fault) = omega arith

rises : (old new : Reading TransactionValue GroupFault) → GoesOn old new → rank old ≤ rank new
rises old new (inl same) = let is : rank new ≡ rank old = ap rank same in omega (arith, is)
rises old new (inr (inl (rests, e))) =
    let is : rank new ≡ 2 * length old.items + 1 = ap rank e in
    omega (arith, is, at_most old.fault)
rises old new (inr (inr (inl (goes, fault, of_event, e)))) =
    let is : rank new ≡ 2 * length old.items + 1 = ap rank e in
    omega (arith, is, at_most old.fault)
rises old new (inr (inr (inr (going, t, e)))) =
    let is : rank new ≡ 2 * length (old.items ++ t ∷ []) + 0 = ap rank e in
    let more : length (old.items ++ t ∷ []) ≡ length old.items + 1 = length-append old.items (t ∷ []) in
    omega (arith, is, more, at_most old.fault)

rises_by : (events : List LogEvent) (many further : ℕ) → rank (told_by events many) ≤ rank (told_by events (many + further))
rises_by events many zero = let same : many + 0 ≡ many = omega arith in let is : rank (told_by events (many + 0)) ≡ rank (told_by events many) = ap (λ (k : ℕ). rank (told_by events k)) same in omega (arith, is)
rises_by events many (suc further) =
    let same : many + suc further ≡ many + further + 1 = omega arith in
    let is : rank (told_by events (many + suc further)) ≡ rank (told_by events (many + further + 1)) = ap (λ (k : ℕ). rank (told_by events k)) same in
    omega (arith, is, rises_by events many further, rises (told_by events (many + further)) (told_by events (many + further + 1)) (goes_on events (many + further)))

begins_before : (events : List LogEvent) (n : ℕ) (one other : BeginsBehind events n) → one.many < other.many → ⊥
begins_before events n one other less =
    let further : ℕ = other.many - (one.many + 1) in
    let there : one.many + 1 + further ≡ other.many = omega (arith, less) in
    let is : rank (told_by events (one.many + 1 + further)) ≡ rank (told_by events other.many) = ap (λ (k : ℕ). rank (told_by events k)) there in
    let behind : begun (told_by events (one.many + 1)).fault ≡ 1 = ap begun one.behind.1 in
    let before : begun (told_by events other.many).fault ≡ 0 = ap begun other.before.1 in
    omega (arith, is, behind, before, one.behind.0, other.before.0, rises_by events (one.many + 1) further)

-- a fault of an event stays
not_going : (fault : GroupFault) → IsOfEvent fault → MayGoOn (Some fault) → ⊥
not_going Unended h goes = h
not_going fault h goes = goes

not_unended : (fault : GroupFault) → IsOfEvent fault → ◌≡◌ {A = Option GroupFault} (Some Unended) (Some fault) → ⊥
not_unended Unended h e = h
not_unended fault h e = cc

stay_on : (old new : Reading TransactionValue GroupFault) (fault : GroupFault) → IsOfEvent fault → GoesOn old new → old.fault ≡ Some fault → new.fault ≡ Some fault
stay_on old new fault of_event (inl same) e = ap fault_of same ∙ e
stay_on old new fault of_event (inr (inl (rests, is))) e = let none : ◌≡◌ {A = Option GroupFault} None (Some fault) = sym rests ∙ e in cc
stay_on old new fault of_event (inr (inr (inl (goes, other, of_other, is)))) e = absurd (not_going fault of_event (rw e at goes))
stay_on old new fault of_event (inr (inr (inr (going, t, is)))) e = absurd (not_unended fault of_event (sym going ∙ e))

stays_by : (events : List LogEvent) (many further : ℕ) (fault : GroupFault) → IsOfEvent fault → (told_by events many).fault ≡ Some fault → (told_by events (many + further)).fault ≡ Some fault
stays_by events many zero fault of_event e = let same : many + 0 ≡ many = omega arith in ap (λ (k : ℕ). (told_by events k).fault) same ∙ e
stays_by events many (suc further) fault of_event e =
    let same : many + suc further ≡ many + further + 1 = omega arith in
    ap (λ (k : ℕ). (told_by events k).fault) same
    ∙ stay_on (told_by events (many + further)) (told_by events (many + further + 1)) fault of_event (goes_on events (many + further)) (stays_by events many further fault of_event e)

fails_before : (events : List LogEvent) (n k : ℕ) (fault wrong : GroupFault) (one : FailsBehind events n fault) (other : FailsBehind events k wrong) → IsOfEvent fault → one.many < other.many → ⊥
fails_before events n k fault wrong one other of_event less =
    let further : ℕ = other.many - (one.many + 1) in
    let there : one.many + 1 + further ≡ other.many = omega (arith, less) in
    let stays : (told_by events (one.many + 1 + further)).fault ≡ Some fault = stays_by events (one.many + 1) further fault of_event one.behind.1 in
    let before : other.end ≡ Some fault = sym other.before.1 ∙ ap (λ (k : ℕ). (told_by events k).fault) (sym there) ∙ stays in
    let goes = other.sofar in
    not_going fault of_event (rw before at goes)

pub places-one : (events : List LogEvent) → PlacesAreOne events
places-one events = record {
  begins = λ n one other. elim (cases_lt one.many other.many) [
    | inl less ↦ absurd (begins_before events n one other less)
    | inr le ↦ elim (cases_lt other.many one.many) [
      | inl less ↦ absurd (begins_before events n other one less)
      | inr ge ↦ omega (arith, le, ge)
    ]
  ];
  fails = λ n k fault wrong one other of_fault of_wrong. elim (cases_lt one.many other.many) [
    | inl less ↦ absurd (fails_before events n k fault wrong one other of_fault less)
    | inr le ↦ elim (cases_lt other.many one.many) [
      | inl less ↦ absurd (fails_before events k n wrong fault other one of_wrong less)
      | inr ge ↦ omega (arith, le, ge)
    ]
  ];
}
