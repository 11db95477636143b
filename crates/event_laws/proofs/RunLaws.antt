-- The groups of events of which a base stands for the front.
use Rattle.std.proofs.Common.{◌≡◌, ℕ, ◌+◌, ◌-◌, ◌⊎◌, List, [], ◌∷◌, ◌++◌, length, map, drop, reverse, true, false, Option, None, Some, Result, Ok, Err, option_map, refl, sym, ap, subst, ◌∙◌, inl, inr}
use Rattle.std.proofs.lemmas.Bool.{cases_Bool, cond-true, cond-false}
use Rattle.std.proofs.lemmas.List.{drop_at, reverse-append, append-nil, append_assoc}
use Rattle.std.specs.Option.{option_or}
use Rattle.vevent.specs.EventValue.{EventValue}
use Rattle.source_feed.specs.declared.fault.FeedFault.{FeedFault}
use Rattle.source_feed.specs.declared.fault.FeedFault.TheVariants.{OpenAtEnd}
use Rattle.source_feed.specs.GroupValue.{Position, GroupValue}
use Rattle.source_feed.specs.SourceValue.{SourceValue}
use Rattle.source_feed.specs.PastEvents.{PastEvents, is_open}
use Rattle.source_feed.specs.Groups.{block_at, seen, group_of_block, groups_of, first_fault, fault_at, closed}
use Rattle.source_feed.specs.Private.SetLaws.{SetLaws}
use Rattle.source_feed.proofs.Options.{option_or-nothing}
use Rattle.event_laws.specs.Alike.{lowered_group, lowered_fault, GoOnAlike}
use Rattle.event_laws.specs.BaseEvents.{base_events, CanStandFor}
use Rattle.event_laws.specs.Laws.{first_group, StandsFor, groups_to_end, groups_in_front, IsCompactedRun}
use Rattle.event_laws.proofs.AlikeLaws.{go_on_alike}
use Rattle.event_laws.proofs.BaseLaws.{base_stands}

-- ---- a history that ends

abbrev pub Groups : Type 0
Groups = Result (List GroupValue) FeedFault

abbrev good : List GroupValue → Groups
good all = Ok all

abbrev bad : FeedFault → Groups
bad fault = Err fault

pub not_given : {P : Type 0} (all : List GroupValue) (fault : FeedFault) → bad fault ≡ good all → P
not_given all fault e = cc

same_given : (a b : List GroupValue) → good a ≡ good b → a ≡ b
same_given a b e = cc

same_bad : (a b : FeedFault) → bad a ≡ bad b → a ≡ b
same_bad a b e = cc

-- a history whose groups are given has no fault and is at its end outside of transactions
pub record Ended (source : SourceValue) (past : PastEvents) (all : List GroupValue) : Type 0 where
  pub faultless : first_fault source past ≡ None
  pub outside : is_open past ≡ false
  pub are : groups_of source past ≡ all

pub ended_by : (source : SourceValue) (past : PastEvents) (first : Option FeedFault) (all : List GroupValue) → first_fault source past ≡ first → closed source past (option_or first None) ≡ Ok all → Ended source past all
ended_by source past (Some fault) all is e = not_given all fault e
ended_by source past None all is e = elim (cases_Bool (is_open past)) [
  | inl opened ↦ not_given all OpenAtEnd (sym (cond-true (is_open past) (bad OpenAtEnd) (good (groups_of source past)) opened) ∙ e)
  | inr shut ↦ record {
    faultless = is;
    outside = shut;
    are = same_given (groups_of source past) all (sym (cond-false (is_open past) (bad OpenAtEnd) (good (groups_of source past)) shut) ∙ e);
  }
]

pub ended : (source : SourceValue) (events : List EventValue) (all : List GroupValue) → groups_to_end source events ≡ Ok all → Ended source (reverse events) all
ended source events all e = ended_by source (reverse events) (first_fault source (reverse events)) all refl e

pub ends : (source : SourceValue) (events : List EventValue) (all : List GroupValue) → Ended source (reverse events) all → groups_to_end source events ≡ Ok all
ends source events all w =
    ap (λ (first : Option FeedFault). closed source (reverse events) (option_or first None)) w.faultless
    ∙ cond-false (is_open (reverse events)) (bad OpenAtEnd) (good (groups_of source (reverse events))) w.outside
    ∙ ap good w.are

-- a history that is refused has a fault, or ends inside a transaction
abbrev Refused : SourceValue → PastEvents → FeedFault → Type 0
Refused source past fault = (first_fault source past ≡ Some fault) ⊎ ((first_fault source past ≡ None) × (is_open past ≡ true) × (fault ≡ OpenAtEnd))

refused_by : (source : SourceValue) (past : PastEvents) (first : Option FeedFault) (fault : FeedFault) → first_fault source past ≡ first → closed source past (option_or first None) ≡ Err fault → Refused source past fault
refused_by source past (Some other) fault is e = inl (is ∙ ap Some (same_bad other fault e))
refused_by source past None fault is e = elim (cases_Bool (is_open past)) [
  | inl opened ↦ inr (is, opened, sym (same_bad OpenAtEnd fault (sym (cond-true (is_open past) (bad OpenAtEnd) (good (groups_of source past)) opened) ∙ e)))
  | inr shut ↦ not_given (groups_of source past) fault (sym e ∙ cond-false (is_open past) (bad OpenAtEnd) (good (groups_of source past)) shut)
]

refuses : (source : SourceValue) (past : PastEvents) (fault : FeedFault) → Refused source past fault → closed source past (option_or (first_fault source past) None) ≡ Err fault
refuses source past fault (inl here) = ap (λ (first : Option FeedFault). closed source past (option_or first None)) here
refuses source past fault (inr open_end) =
    ap (λ (first : Option FeedFault). closed source past (option_or first None)) open_end.0
    ∙ cond-true (is_open past) (bad OpenAtEnd) (good (groups_of source past)) open_end.1
    ∙ ap bad (sym open_end.2)

-- ---- the front

pub front_faultless : (source : SourceValue) (later old : PastEvents) → first_fault source (later ++ old) ≡ None → first_fault source old ≡ None
front_faultless source [] old e = e
front_faultless source (event ∷ later) old e = front_faultless source later old (option_or-nothing (first_fault source (later ++ old)) (fault_at source (later ++ old) event) e).0

-- the groups of a front begin those of all events
pub groups_behind : (source : SourceValue) (later old : PastEvents) → (more : List GroupValue) × (groups_of source (later ++ old) ≡ groups_of source old ++ more)
groups_behind source [] old = ([], sym (append-nil (groups_of source old)))
groups_behind source (event ∷ later) old =
    let others = groups_behind source later old in
    let one : List GroupValue = group_of_block (seen source (later ++ old)) (length (groups_of source (later ++ old)) + 1) (block_at source (later ++ old) event) in
    (others.0 ++ one, ap (λ (gs : List GroupValue). gs ++ one) others.1 ∙ append_assoc (groups_of source old) others.0 one)

-- ---- the whole

pub compacted_run : SetLaws → (source : SourceValue) (front fields rows : List EventValue) (place : EventValue) (position : Position) (behind : List EventValue)
    → CanStandFor source (reverse front) fields rows place position → IsCompactedRun source front fields rows place position behind
compacted_run laws source front fields rows place position behind can =
    let base : List EventValue = base_events fields rows place in
    let old : PastEvents = reverse front in
    let new : PastEvents = reverse base in
    let later : PastEvents = reverse behind in
    let s : StandsFor source old rows position new = base_stands laws source old fields rows place position can in
    let fewer : ℕ = groups_in_front source front - 1 in
    let g : GoOnAlike source fewer old new later = go_on_alike source fewer old new later s.alike in
    let old_is : reverse (front ++ behind) ≡ later ++ old = reverse-append front behind in
    let new_is : reverse (base ++ behind) ≡ later ++ new = reverse-append base behind in
    record {
      given = λ all e.
          let w : Ended source (later ++ old) all = subst (λ (p : PastEvents). Ended source p all) old_is (ended source (front ++ behind) all e) in
          let more_is : drop (groups_in_front source front) all ≡ g.more =
          ap (drop (groups_in_front source front)) (sym w.are ∙ g.of_old) ∙ drop_at (groups_of source old) g.more (groups_in_front source front) refl in
          let now : List GroupValue = first_group source rows position ∷ map (lowered_group fewer) (drop (groups_in_front source front) all) in
          let it : Ended source (later ++ new) now = record {
            faultless = g.faults (front_faultless source later old w.faultless) s.faultless ∙ ap (option_map (lowered_fault fewer)) w.faultless;
            outside = g.behind.inside ∙ w.outside;
            are = g.of_new ∙ ap (λ (gs : List GroupValue). gs ++ map (lowered_group fewer) g.more) s.one
                ∙ ap (λ (gs : List GroupValue). first_group source rows position ∷ map (lowered_group fewer) gs) (sym more_is);
          } in
          ends source (base ++ behind) now (subst (λ (p : PastEvents). Ended source p now) (sym new_is) it);
      refused = λ fault sound e.
          let r : Refused source (later ++ old) fault =
          subst (λ (p : PastEvents). Refused source p fault) old_is (refused_by source (reverse (front ++ behind)) (first_fault source (reverse (front ++ behind))) fault refl e) in
          let faults : first_fault source (later ++ new) ≡ option_map (lowered_fault fewer) (first_fault source (later ++ old)) = g.faults sound s.faultless in
          let it : Refused source (later ++ new) (lowered_fault fewer fault) = elim r [
            | inl here ↦ inl (faults ∙ ap (option_map (lowered_fault fewer)) here)
            | inr open_end ↦ inr (faults ∙ ap (option_map (lowered_fault fewer)) open_end.0, g.behind.inside ∙ open_end.1, ap (lowered_fault fewer) open_end.2)
          ] in
          refuses source (reverse (base ++ behind)) (lowered_fault fewer fault) (subst (λ (p : PastEvents). Refused source p (lowered_fault fewer fault)) (sym new_is) it);
    }
