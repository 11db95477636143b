-- What stands in a feed whose groups aren't defined.
use Rattle.std.specs.List.{list_any}
use Rattle.std.specs.Option.{option_or}
use Rattle.std.specs.Prelude.{slice_get, ◌||◌}
use Rattle.std.proofs.Common.{◌≡◌, ℕ, suc, ◌^◌, nat_lt, length, Bool, true, false, List, [], ◌∷◌, ◌++◌, ◌⊎◌, reverse, Option, None, Some, Result, Ok, Err, IfErr, IfSome, refl, sym, ◌∙◌, ap, inl, inr, append_assoc}
use Rattle.std.proofs.lemmas.Bool.{cases_Bool, cond-true, cond-false, ltb-true, ltb-false}
use Rattle.std.proofs.lemmas.List.{reverse-append, reverse-reverse}
use Rattle.std.proofs.lemmas.Option.{same_Some}
use mathlib.Core.List.{reverse-cons}
use Rattle.proto_wire.specs.Reading.{Reading}
use Rattle.vevent.specs.EventValue.{EventValue}
use Rattle.source_feed.specs.declared.fault.FeedFault.{FeedFault}
use Rattle.source_feed.specs.declared.fault.FeedFault.TheVariants.{FeedTooLong, FieldsDiffer, OpenAtEnd, Memory}
use Rattle.list_laws.specs.Outcome.{GivesUnless, Refuses}
use Rattle.source_feed.specs.FaultNumber.{meant_of}
use Rattle.source_feed.specs.GroupValue.{GroupValue}
use Rattle.source_feed.specs.SourceValue.{SourceValue}
use Rattle.source_feed.specs.EventList.{events_of_feed}
use Rattle.source_feed.specs.PastEvents.{PastEvents, is_open}
use Rattle.source_feed.specs.Groups.{first_fault, fault_at, closed, groups_in, groups_of, groups}
use Rattle.source_feed.specs.FirstFault.{AtEvent, AtEnd, StandsIn, HasDifferent, StandsUnder}
use Rattle.source_feed.specs.Planned.{source_of, differs, differs_from}
use Rattle.source_feed.proofs.PlanLaws.{differs-from}
use Rattle.filter_rule.specs.PlanValue.{PlanValue}
use Rattle.source_feed.proofs.Options.{option_cases}

abbrev refused : FeedFault → Result (List GroupValue) FeedFault
refused fault = Err fault

same_err : (x y : FeedFault) → refused x ≡ refused y → x ≡ y
same_err x y e = cc

-- the place of the first fault in a history
record Place (source : SourceValue) (history : PastEvents) (fault : FeedFault) : Type 0 where
  later : List EventValue
  event : EventValue
  earlier : PastEvents
  split : history ≡ later ++ event ∷ earlier
  before : first_fault source earlier ≡ None
  here : fault_at source earlier event ≡ Some fault

place_of : (source : SourceValue) (history : PastEvents) (fault : FeedFault) → first_fault source history ≡ Some fault → Place source history fault
place_of source [] fault e = cc
place_of source (event ∷ earlier) fault e =
    elim (option_cases (first_fault source earlier)) [
      | inl none ↦ record {
        later = [];
        event = event;
        earlier = earlier;
        split = refl;
        before = none;
        here = sym (ap (λ first. option_or first (fault_at source earlier event)) none) ∙ e;
      }
      | inr some ↦
          let same : some.0 ≡ fault = same_Some some.0 fault (sym (ap (λ first. option_or first (fault_at source earlier event)) some.1) ∙ e) in
          let p : Place source earlier fault = place_of source earlier fault (some.1 ∙ ap (λ f. Some f) same) in
          record { later = event ∷ p.later; event = p.event; earlier = p.earlier; split = ap (λ h. event ∷ h) p.split; before = p.before; here = p.here }
    ]

at_event : (source : SourceValue) (events : List EventValue) (fault : FeedFault) → first_fault source (reverse events) ≡ Some fault → AtEvent source events fault
at_event source events fault e =
    let p : Place source (reverse events) fault = place_of source (reverse events) fault e in
    record {
      earlier = p.earlier;
      event = p.event;
      behind = reverse p.later;
      split = sym (reverse-reverse events) ∙ ap reverse p.split ∙ reverse-append p.later (p.event ∷ p.earlier)
          ∙ ap (λ front. front ++ reverse p.later) (reverse-cons p.event p.earlier)
          ∙ append_assoc (reverse p.earlier) (p.event ∷ []) (reverse p.later);
      before = p.before;
      here = p.here;
    }

stands_in_events : (source : SourceValue) (events : Reading EventValue FeedFault) (fault : FeedFault) → groups_in source events ≡ Err fault
    → AtEvent source events.items fault ⊎ AtEnd source events fault
stands_in_events source events fault e =
    elim (option_cases (first_fault source (reverse events.items))) [
      | inr some ↦
          let at : closed source (reverse events.items) (Some some.0) ≡ Err fault = sym (ap (λ first. closed source (reverse events.items) (option_or first events.fault)) some.1) ∙ e in
          let same : some.0 ≡ fault = same_err some.0 fault at in
          inl (at_event source events.items fault (some.1 ∙ ap (λ f. Some f) same))
      | inl none ↦
          let at : closed source (reverse events.items) events.fault ≡ Err fault = sym (ap (λ first. closed source (reverse events.items) (option_or first events.fault)) none) ∙ e in
          elim (option_cases events.fault) [
            | inr some ↦
                let end : closed source (reverse events.items) (Some some.0) ≡ Err fault = sym (ap (closed source (reverse events.items)) some.1) ∙ at in
                inr (record { before = none; here = inl (some.1 ∙ ap (λ f. Some f) (same_err some.0 fault end)) })
            | inl whole ↦
                let end : closed source (reverse events.items) None ≡ Err fault = sym (ap (closed source (reverse events.items)) whole) ∙ at in
                elim (cases_Bool (is_open (reverse events.items))) [
                  | inl opened ↦
                      let last : refused OpenAtEnd ≡ refused fault = sym (cond-true (is_open (reverse events.items)) (Err OpenAtEnd) (Ok (groups_of source (reverse events.items))) opened) ∙ end in
                      inr (record { before = none; here = inr (whole, opened, sym (same_err OpenAtEnd fault last)) })
                  | inr shut ↦
                      let last : Ok (groups_of source (reverse events.items)) ≡ Err fault = sym (cond-false (is_open (reverse events.items)) (Err OpenAtEnd) (Ok (groups_of source (reverse events.items))) shut) ∙ end in
                      cc
                ]
          ]
    ]

stands : (feed : List ℕ) (source : SourceValue) (fault : FeedFault) → groups feed source ≡ Err fault → StandsIn feed source fault
stands feed source fault e =
    elim (cases_Bool (nat_lt (length feed) (2 ^ 31))) [
      | inl short ↦
          let at : groups_in source (events_of_feed feed) ≡ Err fault = sym (cond-true (nat_lt (length feed) (2 ^ 31)) (groups_in source (events_of_feed feed)) (Err FeedTooLong) short) ∙ e in
          inr (ltb-true (length feed) (2 ^ 31) short, stands_in_events source (events_of_feed feed) fault at)
      | inr long ↦
          let at : refused FeedTooLong ≡ refused fault = sym (cond-false (nat_lt (length feed) (2 ^ 31)) (groups_in source (events_of_feed feed)) (Err FeedTooLong) long) ∙ e in
          inl (sym (same_err FeedTooLong fault at), ltb-false (length feed) (2 ^ 31) long)
    ]

unless_memory : (feed : List ℕ) (source : SourceValue) (fault : FeedFault) → Refuses meant_of fault (groups feed source) → IfSome (meant_of fault) (StandsIn feed source)
unless_memory feed source Memory r = tt
unless_memory feed source fault r = stands feed source fault r

-- where the groups are given exactly, a refusal says what stands in the feed
pub refusal_stands : {X : Type 0} (view : X → List GroupValue) (feed : List ℕ) (source : SourceValue) (result : Result X FeedFault)
    → GivesUnless meant_of view result (groups feed source) → IfErr result (λ fault. IfSome (meant_of fault) (StandsIn feed source))
refusal_stands view feed source (Ok x) g = tt
refusal_stands view feed source (Err fault) g = unless_memory feed source fault g

-- some item of a list has what some has
any_there : {A : Type 0} (f : A → Bool) (xs : List A) → list_any f xs ≡ true → (i : ℕ) × (x : A) × (slice_get xs i ≡ Some x) × (f x ≡ true)
any_there f [] h = cc
any_there f (x ∷ xs) h =
    elim (cases_Bool (f x)) [
      | inl holds ↦ (0, x, refl, holds)
      | inr fails ↦
          let more = any_there f xs (sym (ap (λ b. b || list_any f xs) fails) ∙ h) in
          (suc more.0, more.1, more.2, more.3)
    ]

differing : (feed : List ℕ) (plan : PlanValue) (all : List GroupValue) → groups feed (source_of plan) ≡ Ok all → list_any (differs plan) (events_of_feed feed).items ≡ true → HasDifferent feed plan
differing feed plan all defined h =
    let there = any_there (differs plan) (events_of_feed feed).items h in
    record { all = all; defined = defined; place = there.0; event = there.1; there = there.2; differs = there.3 }

-- the FIELD that differs, where a feed without another fault is refused
pub different : (feed : List ℕ) (plan : PlanValue) (all : List GroupValue) → groups feed (source_of plan) ≡ Ok all → list_any (differs plan) (events_of_feed feed).items ≡ true
    → StandsUnder feed plan FieldsDiffer
different feed plan all defined h = inr (refl, differing feed plan all defined h)

seen_differs : (plan : PlanValue) (given : Option PlanValue) (before after : Bool) (events : List EventValue) → given ≡ Some plan → before ≡ false → after ≡ true
    → after ≡ (before || list_any (differs_from given) events) → list_any (differs plan) events ≡ true
seen_differs plan given before after events g b a e =
    sym (differs-from plan events) ∙ ap (λ p. list_any (differs_from p) events) (sym g) ∙ ap (λ c. c || list_any (differs_from given) events) (sym b) ∙ sym e ∙ a

-- the same, where the events were looked at one after another
pub seen_different : (feed : List ℕ) (plan : PlanValue) (all : List GroupValue) (given : Option PlanValue) (before after : Bool) → groups feed (source_of plan) ≡ Ok all → given ≡ Some plan → before ≡ false → after ≡ true
    → after ≡ (before || list_any (differs_from given) (events_of_feed feed).items) → StandsUnder feed plan FieldsDiffer
seen_different feed plan all given before after defined g b a e =
    different feed plan all defined (seen_differs plan given before after (events_of_feed feed).items g b a e)

-- a refusal that has nothing to do with the plan
pub refusal_under : (feed : List ℕ) (plan : PlanValue) (fault : FeedFault) → Refuses meant_of fault (groups feed (source_of plan)) → IfSome (meant_of fault) (StandsUnder feed plan)
refusal_under feed plan Memory r = tt
refusal_under feed plan fault r = inl (stands feed (source_of plan) fault r)
