-- Some events more: where among them the cut stands, if it does.
use Rattle.std.proofs.Common.{◌≡◌, ◌⊎◌, ℕ, zero, suc, ◌==◌, ◌<◌, List, [], ◌∷◌, ◌++◌, map, reverse, false, None, Result, Ok, refl, sym, ap, subst, ◌∙◌, inl, inr, arith, append_assoc}
use Rattle.std.proofs.lemmas.Bool.{cases_Bool, cond-true, cond-false, eqb-true, eqb-false}
use mathlib.Core.List.{reverse-cons}
use Rattle.vevent.specs.Event.{event_at}
use Rattle.vevent.specs.EventValue.{EventValue}
use Rattle.vevent.specs.declared.fault.EventFault.{EventFault}
use Rattle.source_feed.specs.SourceValue.{SourceValue}
use Rattle.source_feed.specs.PastEvents.{PastEvents}
use Rattle.source_feed.specs.Groups.{fault_at, first_fault}
use Rattle.source_feed.specs.Private.SetLaws.{SetLaws}
use Rattle.source_feed.proofs.Options.{option_or-nothing}
use Rattle.event_laws.specs.Cuts.{IsCut}
use Rattle.event_laws.proofs.RunLaws.{front_faultless}
use Rattle.feed_bytes.specs.Private.Course.{CourseValue, step_at, Walk, walked}
use Rattle.feed_bytes.specs.Private.Search.{IsBehind, StopsAt, GoesBy}
use Rattle.feed_bytes.proofs.CourseLaws.{one_event, cut_here}

abbrev Read : Type 0
Read = Result EventValue EventFault

abbrev good : EventValue → Read
good event = Ok event

not_none : (n : ℕ) → (n == 0) ≡ false → 0 < n
not_none n e = let apart = eqb-false n 0 e in by n apart
  where
    by : (n : ℕ) → (n ≡ 0 → ⊥) → 0 < n
    by zero apart = absurd (apart refl)
    by (suc n) apart = omega arith

module _ (laws : SetLaws) (source : SourceValue) (number : ℕ) where
  pub walks : (parts : List (List ℕ)) (events : List EventValue) (earlier : PastEvents) (course : CourseValue) → map event_at parts ≡ map good events
      → first_fault source (reverse events ++ earlier) ≡ None → IsBehind source number earlier course → 0 < course.left
      → StopsAt source number earlier events (walked source course parts) ⊎ GoesBy source number earlier events (walked source course parts)
  walks [] [] earlier course e faultless b more = inr (record { at = b; more = more })
  walks [] (v ∷ events) earlier course e faultless b more = cc
  walks (p ∷ parts) [] earlier course e faultless b more = cc
  walks (p ∷ parts) (v ∷ events) earlier course e faultless b more =
      let here : event_at p ≡ good v = cc in
      let others : map event_at parts ≡ map good events = cc in
      let next : CourseValue = step_at source course p (event_at p) in
      let moved : reverse (v ∷ events) ++ earlier ≡ reverse events ++ (v ∷ earlier) = ap (λ (vs : PastEvents). vs ++ earlier) (reverse-cons v events) ∙ append_assoc (reverse events) (v ∷ []) earlier in
      let all : first_fault source (reverse events ++ (v ∷ earlier)) ≡ None = ap (first_fault source) (sym moved) ∙ faultless in
      let first : first_fault source (v ∷ earlier) ≡ None = front_faultless source (reverse events) (v ∷ earlier) all in
      let both = option_or-nothing (first_fault source earlier) (fault_at source earlier v) first in
      let a : IsBehind source number (v ∷ earlier) next =
      subst (IsBehind source number (v ∷ earlier)) (sym (ap (step_at source course p) here)) (one_event laws source number earlier course b p both.0 more v here both.1) in
      elim (cases_Bool (next.left == 0)) [
        | inl stops ↦ (
            let none : next.left ≡ 0 = eqb-true next.left 0 stops in
            let cut = cut_here laws source number earlier v course next first b more a none in
            let is : walked source course (p ∷ parts) ≡ record { course = next; rest = parts } = cond-true (next.left == 0) (record { course = next; rest = parts }) (walked source next parts) stops in
            inl (
            subst (StopsAt source number earlier (v ∷ events)) (sym is) (
            record {
              front = v ∷ [];
              behind = events;
              are = refl;
              read = others;
              at = a;
              none = none;
              block = cut.0;
              cut = cut.1;
            }
            )
            )
            )
        | inr goes ↦ (
            let is : walked source course (p ∷ parts) ≡ walked source next parts = cond-false (next.left == 0) (record { course = next; rest = parts }) (walked source next parts) goes in
            elim (walks parts events (v ∷ earlier) next others all a (not_none next.left goes)) [
              | inl stops ↦ inl (subst (StopsAt source number earlier (v ∷ events)) (sym is) (behind_first v events earlier (walked source next parts) stops))
              | inr goes ↦ inr (
                  subst (GoesBy source number earlier (v ∷ events)) (sym is)
                  (record { at = subst (λ (past : PastEvents). IsBehind source number past (walked source next parts).course) (sym moved) goes.at; more = goes.more })
                  )
            ]
            )
      ]
    where
      behind_first : (v : EventValue) (events : List EventValue) (earlier : PastEvents) (walk : Walk) → StopsAt source number (v ∷ earlier) events walk → StopsAt source number earlier (v ∷ events) walk
      behind_first v events earlier walk s =
          let moved : reverse s.front ++ (v ∷ earlier) ≡ reverse (v ∷ s.front) ++ earlier =
          sym (ap (λ (vs : PastEvents). vs ++ earlier) (reverse-cons v s.front) ∙ append_assoc (reverse s.front) (v ∷ []) earlier) in
          record {
            front = v ∷ s.front;
            behind = s.behind;
            are = ap (λ (vs : List EventValue). v ∷ vs) s.are;
            read = s.read;
            at = subst (λ (past : PastEvents). IsBehind source number past walk.course) moved s.at;
            none = s.none;
            block = s.block;
            cut = subst (λ (past : PastEvents). IsCut source past s.block) moved s.cut;
          }
