-- Key ranges that split all ids split the rows.
use Rattle.std.proofs.Common.{◌≡◌, ℕ, List, Option, Some, None, Ok, Bool, true, false, option_map, refl, sym, ap, ◌∙◌, rules}
use Rattle.std.specs.Prelude.{slice_get, IsTrue}
use Rattle.std.proofs.lemmas.Option.{slice_get-map}
use Rattle.vindex.specs.Bounds.{Bounds, in_range}
use Rattle.vindex.specs.KeyspaceId.{id_of}
use Rattle.vindex.specs.declared.vindexes.Vindex.{Vindex}
use Rattle.filter_rule.specs.PlanValue.{PlanValue, decision_at, column_at, passes_of, kept_under}
use Rattle.filter_rule.specs.Splitting.{KeepRanges, SplitRow}
use Rattle.filter_rule.specs.declared.decision.Decision.{Decision}
use Rattle.filter_rule.specs.declared.decision.Decision.TheVariants.{InRange}

-- the plan at a place keeps the range at that place
plan_at : {A : Type 0} (x : Option PlanValue) (f : PlanValue → A) (y : A) → option_map f x ≡ Some y → (plan : PlanValue) × (x ≡ Some plan) × (f plan ≡ y)
plan_at None f y e = cc
plan_at (Some plan) f y e = (plan, refl, cc)

range_at : (x : Option Bounds) (f : Bounds → Decision) (y : Decision) → option_map f x ≡ Some y → (range : Bounds) × (x ≡ Some range) × (f range ≡ y)
range_at None f y e = cc
range_at (Some range) f y e = (range, refl, cc)

same_places : (plans : List PlanValue) (t column : ℕ) (vindex : Vindex) (kept : List ℕ) (ranges : List Bounds) (i : ℕ) → KeepRanges plans t column vindex kept ranges
    → option_map (λ plan. decision_at plan t) (slice_get plans i) ≡ option_map (λ range. InRange column vindex range kept) (slice_get ranges i)
same_places plans t column vindex kept ranges i e =
    sym (slice_get-map (λ plan. decision_at plan t) plans i) ∙ ap (λ ds. slice_get ds i) e ∙ slice_get-map (λ range. InRange column vindex range kept) ranges i

keeps_range : (plan : PlanValue) (t column : ℕ) (vindex : Vindex) (range : Bounds) (kept : List ℕ) (id : List ℕ) (row : List (Option (List ℕ))) → decision_at plan t ≡ InRange column vindex range kept → id_of vindex (column_at row column) ≡ Ok id
    → passes_of plan t row ≡ Ok (in_range range id)
keeps_range plan t column vindex range kept id row d e = ap (λ x. kept_under x row) d ∙ rw e

is_false : (b : Bool) → (IsTrue b → ⊥) → b ≡ false
is_false true h = absurd (h (search rules))
is_false false h = refl

pub split_row : (t : ℕ) (row : List (Option (List ℕ))) → SplitRow t row
split_row t row plans column vindex kept ranges id splits keep defined =
    let one = splits id in
    let here = plan_at (slice_get plans one.place) (λ plan. decision_at plan t) (InRange column vindex one.range kept)
    (same_places plans t column vindex kept ranges one.place keep ∙ ap (option_map (λ range. InRange column vindex range kept)) one.stands) in
    record {
      place = one.place;
      plan = here.0;
      stands = here.1;
      passes = keeps_range here.0 t column vindex one.range kept id row here.2 defined ∙ ap Ok one.has_id;
      alone = λ other another stands apart.
          let there = range_at (slice_get ranges other) (λ range. InRange column vindex range kept) (decision_at another t)
          (sym (same_places plans t column vindex kept ranges other keep) ∙ ap (option_map (λ plan. decision_at plan t)) stands) in
          keeps_range another t column vindex there.0 kept id row (sym there.2) defined
          ∙ ap Ok (is_false (in_range there.0 id) (λ h. apart (one.alone other there.0 there.1 h)));
    }
