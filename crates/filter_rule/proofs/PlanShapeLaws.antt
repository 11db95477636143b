-- What the shape of a plan says of its columns and of its rows.
use Rattle.std.proofs.Common.{◌≡◌, inl, inr, ℕ, ◌<◌, List, [], length, get_or, Option, Some, None, refl, sym, ap, subst, ◌∙◌, arith}
use Rattle.std.specs.Prelude.{slice_get}
use Rattle.std.specs.Option.{option_map_or}
use Rattle.std.proofs.lemmas.Option.{slice_get_cases, slice_get_read}
use Rattle.filter_rule.specs.Private.Accepted.{IsWithin}
use Rattle.filter_rule.specs.PlanTable.{TableValue}
use Rattle.filter_rule.specs.PlanValue.{PlanValue, columns_of, key_columns_of, kept_columns_of}
use Rattle.filter_rule.specs.WellFormed.{AreColumnPlaces, AreKept, FitsTable, IsPlan}
use Rattle.filter_rule.specs.declared.decision.Decision.{Decision}
use Rattle.filter_rule.specs.declared.decision.Decision.TheVariants.{NoRule, EveryRow, InRange}

places_at : (plan : PlanValue) (t : ℕ) (o : Option TableValue) → IsPlan plan → slice_get plan.tables t ≡ o
    → AreColumnPlaces (option_map_or (λ (table : TableValue). table.columns) o []) (option_map_or (λ (table : TableValue). table.key) o [])
places_at plan t None fit is i place there = cc
places_at plan t (Some table) fit is i place there = ((fit.tables.each_table t table is).key_columns i place there).within

pub key_places : (plan : PlanValue) (t : ℕ) → IsPlan plan → AreColumnPlaces (columns_of plan t) (key_columns_of plan t)
key_places plan t fit = places_at plan t (slice_get plan.tables t) fit refl

kept_at : (plan : PlanValue) (t : ℕ) (o : Option TableValue) → IsPlan plan → slice_get plan.tables t ≡ o
    → AreKept (option_map_or (λ (table : TableValue). table.columns) o []) (option_map_or (λ (table : TableValue). table.key) o []) (option_map_or (λ (table : TableValue). table.kept) o [])
kept_at plan t None fit is = record {
  places = λ i place there. cc;
  apart = λ i j place there other. cc;
  key_kept = λ i place there. cc;
}
kept_at plan t (Some table) fit is = (fit.tables.each_table t table is).kept_columns

pub plan_kept : (plan : PlanValue) (t : ℕ) → IsPlan plan → AreKept (columns_of plan t) (key_columns_of plan t) (kept_columns_of plan t)
plan_kept plan t fit = kept_at plan t (slice_get plan.tables t) fit refl

fits_width : (table : TableValue) (d : Decision) → FitsTable table d → IsWithin (length table.columns) d
fits_width table NoRule fit = tt
fits_width table (EveryRow kept) fit = tt
fits_width table (InRange place vindex range kept) fit = fit.0.within

within_at : (plan : PlanValue) (t : ℕ) (d : Decision) (o : Option TableValue) → IsPlan plan → t < length plan.tables → slice_get plan.tables t ≡ o → slice_get plan.decisions t ≡ Some d
    → IsWithin (length (option_map_or (λ (table : TableValue). table.columns) o [])) d
within_at plan t d None fit there is d_is =
    elim (slice_get_cases plan.tables t).1 [
      | inl found ↦ let some : slice_get plan.tables t ≡ Some found.0 = found.2 in absurd (cc)
      | inr past ↦ absurd (omega arith)
    ]
within_at plan t d (Some table) fit there is d_is = fits_width table d (fit.filters t d table d_is is)

-- the column that a plan's decision names is in each row as wide as its table
pub decision_within : (plan : PlanValue) (t width : ℕ) (d : Decision) → IsPlan plan → t < length plan.tables → width ≡ length (columns_of plan t) → slice_get plan.decisions t ≡ Some d → IsWithin width d
decision_within plan t width d fit there same d_is =
    subst (λ n. IsWithin n d) (sym same) (within_at plan t d (slice_get plan.tables t) fit there refl d_is)

pub row_within : (plan : PlanValue) (decisions : List Decision) (t i width : ℕ) (d : Decision) → IsPlan plan → decisions ≡ plan.decisions → i ≡ t → t < length plan.tables → width ≡ length (columns_of plan t) → d ≡ get_or decisions i d → IsWithin width d
row_within plan decisions t i width d fit same here there wide is =
    let count : length decisions ≡ length plan.decisions = ap length same in
    let inside : i < length decisions = omega (arith, fit.decided) in
    let at_i : slice_get decisions i ≡ Some d = slice_get_read decisions (length decisions) i d refl inside is in
    let at_t : slice_get plan.decisions t ≡ Some d = ap (slice_get plan.decisions) (sym here) ∙ ap (λ ds. slice_get ds i) (sym same) ∙ at_i in
    decision_within plan t width d fit there wide at_t
