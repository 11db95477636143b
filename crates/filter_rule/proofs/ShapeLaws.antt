-- The decisions of a stream's rules fit the tables.
use Rattle.std.proofs.Common.{◌≡◌, ℕ, zero, suc, ◌+◌, List, [], ◌∷◌, length, Bool, true, false, cond, Option, Some, None, Ok, refl, sym, ap, subst}
use Rattle.std.specs.Prelude.{slice_get}
use Rattle.std.proofs.lemmas.Option.{same_Some}
use Rattle.vindex.specs.Bounds.{Bounds}
use Rattle.vindex.specs.declared.vindexes.Vindex.{Vindex}
use Rattle.filter_text.specs.FilterText.{RowsSaid, every_row, in_own_range, in_range_of}
use Rattle.filter_text.specs.RuleScope.{is_for}
use Rattle.filter_rule.specs.Document.{RuleSaid}
use Rattle.filter_rule.specs.PlanTable.{TableValue}
use Rattle.filter_rule.specs.Reading.{rule_over, decide_in_turn, undecided, decisions_of}
use Rattle.filter_rule.specs.Resolving.{is_vindex_type, place_in, vindex_type}
use Rattle.filter_rule.specs.Rules.{RuleForm, form_of, kept_by, own_decision, decide, decide_once, decide_each}
use Rattle.filter_rule.specs.WellFormed.{HasColumn, AreKept, IsTable, AreTables}
use Rattle.filter_rule.specs.declared.decision.Decision.{Decision}
use Rattle.filter_rule.specs.declared.decision.Decision.TheVariants.{NoRule, EveryRow, InRange}
use Rattle.filter_rule.proofs.KeptLaws.{AreApart, form_apart, rule_kept}
use Rattle.filter_rule.proofs.StepLaws.{then_ok, same_ok}
use Rattle.filter_rule.proofs.TableLaws.{FitsVindex, named_fits}

-- the column that a decision names is there, and has a type that its vindex can take; the columns that it
-- keeps may be kept
abbrev pub FitsColumns : TableValue → Decision → Type 0
FitsColumns table NoRule = Unit {0}
FitsColumns table (EveryRow kept) = AreKept table.columns table.key kept
FitsColumns table (InRange place vindex range kept) = HasColumn (is_vindex_type vindex) table.columns place × AreKept table.columns table.key kept

own_fits : (s n : ℕ) (columns : Option (List (List ℕ))) (range : Bounds) (t : TableValue) (v : Option (ℕ × Vindex)) (d : Decision) → IsTable t → AreApart columns → FitsVindex t.columns v → own_decision s n columns t range v ≡ Ok d → FitsColumns t d
own_fits s n columns range t None d fit apart vindex_fit h = cc
own_fits s n columns range t (Some v) d fit apart vindex_fit h =
    then_ok _ (kept_by s n columns t) d h (λ kept kept_is h2. subst (FitsColumns t) (same_ok (InRange v.0 v.1 range kept) d h2) (vindex_fit, rule_kept s n columns t kept fit apart kept_is))

decide_fits : (s n : ℕ) (columns : Option (List (List ℕ))) (rows : RowsSaid) (t : TableValue) (d : Decision) → IsTable t → AreApart columns → decide s n columns rows t ≡ Ok d → FitsColumns t d
decide_fits s n columns every_row t d fit apart h =
    then_ok _ (kept_by s n columns t) d h (λ kept kept_is h2. subst (FitsColumns t) (same_ok (EveryRow kept) d h2) (rule_kept s n columns t kept fit apart kept_is))
decide_fits s n columns (in_own_range range) t d fit apart h = own_fits s n columns range t t.vindex d fit apart fit.vindex_column h
decide_fits s n columns (in_range_of column vindex range) t d fit apart h =
    then_ok _ (kept_by s n columns t) d h (λ kept kept_is h2.
    then_ok _ (place_in t.name t.columns column) d h2 (λ place place_is h3. then_ok _ (vindex_type t.name t.columns column vindex) d h3 (λ a a_is h4.
    subst (FitsColumns t) (same_ok (InRange place vindex range kept) d h4) (named_fits t.name t.columns column vindex place a place_is a_is, rule_kept s n columns t kept fit apart kept_is))))

chosen_fits : (b : Bool) (s n : ℕ) (columns : Option (List (List ℕ))) (rows : RowsSaid) (t : TableValue) (d : Decision) → IsTable t → AreApart columns → cond b (decide s n columns rows t) (Ok NoRule) ≡ Ok d → FitsColumns t d
chosen_fits true s n columns rows t d fit apart h = decide_fits s n columns rows t d fit apart h
chosen_fits false s n columns rows t d fit apart h = subst (FitsColumns t) (same_ok NoRule d h) tt

one_fits : (s n : ℕ) (form : RuleForm) (t : TableValue) (d e : Decision) → IsTable t → AreApart form.columns → FitsColumns t d → decide_once s n form t d ≡ Ok e → FitsColumns t e
one_fits s n form t NoRule e fit apart h is = chosen_fits (is_for form.scope t.name) s n form.columns form.rows t e fit apart is
one_fits s n form t (EveryRow kept) e fit apart h is = subst (FitsColumns t) (same_ok (EveryRow kept) e is) h
one_fits s n form t (InRange place vindex range kept) e fit apart h is = subst (FitsColumns t) (same_ok (InRange place vindex range kept) e is) h

abbrev AreAll : List TableValue → Type 0
AreAll tables = (i : ℕ) (t : TableValue) → slice_get tables i ≡ Some t → IsTable t

-- a decision for each table, which fits it
abbrev pub Decided : List TableValue → List Decision → Type 0
Decided [] [] = Unit {0}
Decided [] (d ∷ ds) = ⊥
Decided (t ∷ ts) [] = ⊥
Decided (t ∷ ts) (d ∷ ds) = FitsColumns t d × Decided ts ds

each_keeps : (s n : ℕ) (form : RuleForm) (ts : List TableValue) (ds es : List Decision) → AreApart form.columns → AreAll ts → Decided ts ds → decide_each s n form ts ds ≡ Ok es → Decided ts es
unfolding decide_each
each_keeps s n form [] [] es apart fit h is = subst (Decided []) (same_ok [] es is) tt
each_keeps s n form [] (d ∷ ds) es apart fit h is = absurd h
each_keeps s n form (t ∷ ts) [] es apart fit h is = absurd h
each_keeps s n form (t ∷ ts) (d ∷ ds) es apart fit h is =
    then_ok _ (decide_once s n form t d) es is (λ e e_is h2. then_ok _ (decide_each s n form ts ds) es h2 (λ rest rest_is h3.
    subst (Decided (t ∷ ts)) (same_ok (e ∷ rest) es h3) (one_fits s n form t d e (fit 0 t refl) apart h.0 e_is, each_keeps s n form ts ds rest apart (λ i u u_is. fit (suc i) u u_is) h.1 rest_is)))

all_keep : (s : ℕ) (ts : List TableValue) (n : ℕ) (rs : List RuleSaid) (ds es : List Decision) → AreAll ts → Decided ts ds → decide_in_turn s ts n rs ds ≡ Ok es → Decided ts es
unfolding decide_in_turn
all_keep s ts n [] ds es fit h is = subst (Decided ts) (same_ok ds es is) h
all_keep s ts n (r ∷ rs) ds es fit h is =
    then_ok _ (rule_over s n ts r ds) es is (λ decided decided_is h2. then_ok _ (form_of s n r) decided decided_is (λ form form_is h3.
    all_keep s ts (n + 1) rs decided es fit (each_keeps s n form ts ds decided (form_apart s n r form form_is) fit h h3) h2))

undecided_decided : (ts : List TableValue) → Decided ts (undecided ts)
undecided_decided [] = tt
undecided_decided (t ∷ ts) = (tt, undecided_decided ts)

pub decisions_decided : (s : ℕ) (ts : List TableValue) (rs : List RuleSaid) (ds : List Decision) → AreTables ts → decisions_of s ts rs ≡ Ok ds → Decided ts ds
decisions_decided s ts rs ds fit is = all_keep s ts 0 rs (undecided ts) ds fit.each_table (undecided_decided ts) is

pub decided_length : (ts : List TableValue) (ds : List Decision) → Decided ts ds → length ds ≡ length ts
decided_length [] [] h = refl
decided_length [] (d ∷ ds) h = absurd h
decided_length (t ∷ ts) [] h = absurd h
decided_length (t ∷ ts) (d ∷ ds) h = ap suc (decided_length ts ds h.1)

pub decided_fit : (ts : List TableValue) (ds : List Decision) → Decided ts ds → (i : ℕ) (d : Decision) (t : TableValue) → slice_get ds i ≡ Some d → slice_get ts i ≡ Some t → FitsColumns t d
decided_fit [] [] h i d t d_is t_is = cc
decided_fit [] (e ∷ ds) h i d t d_is t_is = absurd h
decided_fit (u ∷ ts) [] h i d t d_is t_is = absurd h
decided_fit (u ∷ ts) (e ∷ ds) h zero d t d_is t_is = rw (sym (same_Some e d d_is), sym (same_Some u t t_is)) h.0
decided_fit (u ∷ ts) (e ∷ ds) h (suc i) d t d_is t_is = decided_fit ts ds h.1 i d t d_is t_is
