-- The key of a row is the key of its kept columns.
use Rattle.std.proofs.Common.{◌≡◌, inl, inr, ℕ, zero, suc, ◌+◌, ◌<◌, ◌≤◌, List, [], ◌∷◌, length, map, Bool, true, false, cond, Option, Some, None, refl, sym, ap, subst, ◌∙◌, arith}
use Rattle.std.specs.Prelude.{◌==◌, nat_lt, slice_get, slice_index_or, unwrap_or}
use Rattle.std.specs.Option.{option_map_or}
use borrow.Author.Tests.{eqb-true, eqb-false}
use Rattle.std.proofs.lemmas.List.Recursion.{is_position_or_len}
use Rattle.std.proofs.lemmas.Option.{slice_get_cases, same_Some}
use Rattle.list_laws.proofs.Choices.{or_len_at}
use Rattle.row_view.specs.FieldValue.{FieldValue}
use Rattle.filter_rule.specs.PlanTable.{TableValue}
use Rattle.filter_rule.specs.PlanValue.{PlanValue, columns_of, key_columns_of, kept_columns_of, column_at}
use Rattle.filter_rule.specs.WellFormed.{type_at, Holds, IsPlan}
use Rattle.row_view.specs.Picked.{picked}
use Rattle.row_view.specs.Row.{RowValue}
use Rattle.pk_copy.specs.KeyOf.{KeyCell, cell_at, key_in}
use Rattle.pk_copy.specs.KeyOfKept.{kept_place, kept_cell, ArePlacesKept, KeysAreKept}

-- ---- where a kept column stands

-- by one column after another
abbrev where_kept : ℕ → List ℕ → ℕ
where_kept place [] = 0
where_kept place (k ∷ ks) = cond (k == place) 0 (1 + where_kept place ks)

within_at : (b : Bool) (n m : ℕ) → n ≤ m → cond b 0 (1 + n) ≤ suc m
within_at true n m h = omega arith
within_at false n m h = omega arith

where_within : (place : ℕ) (ks : List ℕ) → where_kept place ks ≤ length ks
where_within place [] = omega arith
where_within place (k ∷ ks) = within_at (k == place) (where_kept place ks) (length ks) (where_within place ks)

kept_where : (kept : List ℕ) (place : ℕ) → kept_place kept place ≡ where_kept place kept
unfolding kept_place
kept_where kept place =
    ap (λ n. unwrap_or (cond (nat_lt n (length kept)) (Some n) None) (length kept)) (sym (is_position_or_len (where_kept place) (λ k. k == place) refl (λ x xs. refl) kept))
    ∙ or_len_at (where_kept place kept) (length kept) (nat_lt (where_kept place kept) (length kept)) refl (where_within place kept)

-- a place that is kept is found, and what is picked there is what stands at the place
record IsFound (place : ℕ) (ks : List ℕ) (row : RowValue) : Type 0 where
  below : where_kept place ks < length ks
  picks : slice_index_or (picked ks row) (where_kept place ks) None ≡ slice_index_or row place None

found_first : (b : Bool) (place k : ℕ) (ks : List ℕ) (row : RowValue) → (k == place) ≡ b → (b ≡ false → IsFound place ks row) → IsFound place (k ∷ ks) row
found_first true place k ks row is more =
    let same : k ≡ place = eqb-true k place is in
    let at : where_kept place (k ∷ ks) ≡ 0 = ap (λ b. cond b 0 (1 + where_kept place ks)) is in
    record { below = omega arith; picks = ap (λ n. slice_index_or (picked (k ∷ ks) row) n None) at ∙ ap (λ p. slice_index_or row p None) same }
found_first false place k ks row is more =
    let there = more refl in
    let below : where_kept place ks < length ks = there.below in
    let next : 1 + where_kept place ks ≡ suc (where_kept place ks) = omega arith in
    let at : where_kept place (k ∷ ks) ≡ suc (where_kept place ks) = ap (λ b. cond b 0 (1 + where_kept place ks)) is ∙ next in
    record { below = omega arith; picks = ap (λ n. slice_index_or (picked (k ∷ ks) row) n None) at ∙ there.picks }

no_self : (place : ℕ) → (place == place) ≡ false → ⊥
no_self place h = eqb-false place place h refl

found : (place : ℕ) (ks : List ℕ) (row : RowValue) (j : ℕ) → slice_get ks j ≡ Some place → IsFound place ks row
found place [] row j is = cc
found place (k ∷ ks) row zero is =
    found_first (k == place) place k ks row refl (λ other. absurd (no_self place (ap (λ x. x == place) (sym (same_Some k place is)) ∙ other)))
found place (k ∷ ks) row (suc j) is = found_first (k == place) place k ks row refl (λ other. found place ks row j is)

-- ---- a table of a plan

pub kept_columns_of-at : (plan : PlanValue) (t : ℕ) (table : TableValue) → slice_get plan.tables t ≡ Some table → kept_columns_of plan t ≡ table.kept
kept_columns_of-at plan t table stands = ap (λ found. option_map_or (λ (table : TableValue). table.kept) found []) stands

places_kept : (key kept : List ℕ) → ((i place : ℕ) → slice_get key i ≡ Some place → Holds kept place) → ArePlacesKept kept key
places_kept key kept holds i place is =
    let at = holds i place is in
    subst (λ (n : ℕ). n < length kept) (sym (kept_where kept place)) (found place kept [] at.0 at.1).below

pub table_kept : (plan : PlanValue) (t : ℕ) (table : TableValue) → IsPlan plan → slice_get plan.tables t ≡ Some table → ArePlacesKept table.kept table.key
table_kept plan t table sound stands = places_kept table.key table.kept (sound.tables.each_table t table stands).kept_columns.key_kept

-- ---- the key

cells_kept : (columns : List FieldValue) (kept : List ℕ) (row : RowValue) (key : List ℕ) → ((i place : ℕ) → slice_get key i ≡ Some place → Holds kept place) → map (kept_cell columns kept (picked kept row)) key ≡ map (cell_at columns row) key
cells_kept columns kept row [] holds = refl
cells_kept columns kept row (place ∷ key) holds =
    let at = holds 0 place refl in
    let value : column_at (picked kept row) (kept_place kept place) ≡ column_at row place =
    ap (λ n. slice_index_or (picked kept row) n None) (kept_where kept place) ∙ (found place kept row at.0 at.1).picks in
    let cell : KeyCell → KeyCell = λ c. c in
    ap (λ (v : Option (List ℕ)). cell (record { type_number = type_at columns place; value = v }) ∷ map (kept_cell columns kept (picked kept row)) key) value
    ∙ ap (λ cells. cell_at columns row place ∷ cells) (cells_kept columns kept row key (λ i p is. holds (suc i) p is))

key_kept-at : (plan : PlanValue) (t : ℕ) (row : RowValue) (o : Option TableValue) → slice_get plan.tables t ≡ o → IsPlan plan → t < length plan.tables
    → map (kept_cell (columns_of plan t) (kept_columns_of plan t) (picked (kept_columns_of plan t) row)) (key_columns_of plan t) ≡ map (cell_at (columns_of plan t) row) (key_columns_of plan t)
key_kept-at plan t row None is sound within =
    elim (slice_get_cases plan.tables t).1 [
      | inl found ↦ let some : slice_get plan.tables t ≡ Some found.0 = found.2 in absurd (cc)
      | inr past ↦ absurd (omega arith)
    ]
key_kept-at plan t row (Some table) is sound within =
    cells_kept (columns_of plan t) (kept_columns_of plan t) row (key_columns_of plan t)
    (subst (λ (o : Option TableValue). (i place : ℕ) → slice_get (option_map_or (λ (table : TableValue). table.key) o []) i ≡ Some place → Holds (option_map_or (λ (table : TableValue). table.kept) o []) place) (sym is)
    (sound.tables.each_table t table is).kept_columns.key_kept)

pub keys_kept : KeysAreKept
keys_kept plan t row sound within = ap (key_in t) (key_kept-at plan t row (slice_get plan.tables t) refl sound within)
