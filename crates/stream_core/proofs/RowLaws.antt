-- What a row decides, as the place of its first refusal.
use Rattle.std.proofs.Common.{◌≡◌, Bool, true, false, List, [], ◌∷◌, ◌++◌, Result, Ok, Err, refl, sym, ap, subst, ◌∙◌}
use Rattle.std.specs.Prelude.{MatchResult, if◌then◌else◌}
use Rattle.std.specs.List.{AllByRecursion}
use Rattle.stream_core.specs.Rows.{Row, first_standing, decides, NoneStands, StandsFirst}

module _ {A R : Type 0} where
  -- what is known of a row's refusals and its answer
  abbrev pub InOrder : List (Bool × R) → A → Result A R → Type 0
  InOrder refusals answer result = MatchResult result (λ a. NoneStands refusals × (a ≡ answer)) (StandsFirst refusals)

  passed : (refusal : R) (later : List (Bool × R)) (answer : A) (result : Result A R) → InOrder later answer result → InOrder ((false, refusal) ∷ later) answer result
  passed refusal later answer (Ok a) h = ((refl, h.0), h.1)
  passed refusal later answer (Err r) h = record {
    earlier = (false, refusal) ∷ h.earlier;
    later = h.later;
    place = ap (λ rest. (false, refusal) ∷ rest) h.place;
    none_before = (refl, h.none_before);
  }

  pub first_in_order : (refusals : List (Bool × R)) (answer : A) → InOrder refusals answer (first_standing refusals answer)
  first_in_order [] answer = (tt, refl)
  first_in_order ((true, refusal) ∷ later) answer = record { earlier = []; later = later; place = refl; none_before = tt }
  first_in_order ((false, refusal) ∷ later) answer = passed refusal later answer (first_standing later answer) (first_in_order later answer)

  -- a result that is what the row decides
  pub in_order : (row : Row A R) (result : Result A R) → result ≡ decides row → InOrder row.refusals row.otherwise result
  in_order row result e = let P : Result A R → Type 0 = InOrder row.refusals row.otherwise in subst P (sym e) (first_in_order row.refusals row.otherwise)
