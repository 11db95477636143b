-- The rows of a stream on a lawful board are those of its cut.
use Rattle.std.proofs.Common.{◌≡◌, ◌==◌, ℕ, Bool, true, false, cond, [], ◌∷◌, map, Option, Some, None, slice_get, refl, sym, ap, ◌∙◌}
use Rattle.std.specs.declared.cmp.Ordering.TheVariants.{Less}
use Rattle.std.specs.List.{AllByRecursion}
use Rattle.std.specs.Option.{option_map, option_and_then}
use Rattle.pk_copy.specs.KeyOrder.{key_cmp}
use Rattle.pk_copy.specs.KeyValue.{KeyValue}
use Rattle.pk_copy.specs.Marks.{is_inside}
use Rattle.target_tables.specs.Contents.{value_at}
use Rattle.target_tables.specs.Rising.{IsRising}
use Rattle.source_feed.specs.History.{RowValue}
use Rattle.source_feed.specs.Image.{row_in}
use Rattle.board_laws.specs.Meaning.{State, TargetRows, Meaning}
use Rattle.board_laws.specs.KeptRows.{kept_rows}
use Rattle.board_laws.specs.Cut.{cut_of, own_row}
use Rattle.board_laws.specs.Lawful.{IsLawful}
use Rattle.board_laws.proofs.KeptRowList.{list-rising, list-kept}
use Rattle.board_laws.proofs.Lookups.{Ties, is_key, lookup-filter, rising-filter, same_rows}
use Rattle.board_laws.proofs.OwnPart.{own_part, only, rising_part, value_in_part}
use Rattle.board_laws.specs.Joined.{cut_rows}
use Rattle.checkpoint_laws.specs.Saved.{without_owner, own_rows}

-- ---- rows without their owners

above-map : (k : KeyValue) (rows : TargetRows) → AllByRecursion (λ e. key_cmp k e.0 ≡ Less) rows → AllByRecursion (λ e. key_cmp k e.0 ≡ Less) (map without_owner rows)
above-map k [] h = tt
above-map k (e ∷ rows) h = (h.0, above-map k rows h.1)

rising-map : (rows : TargetRows) → IsRising key_cmp rows → IsRising key_cmp (map without_owner rows)
rising-map [] h = tt
rising-map (e ∷ rows) h = (above-map e.0 rows h.0, rising-map rows h.1)

abbrev row_of : Option (ℕ × RowValue) → Option RowValue
row_of o = option_map (λ (value : ℕ × RowValue). value.1) o

lookup-map : (rows : TargetRows) (q : KeyValue) → row_in (map without_owner rows) q ≡ row_of (value_at key_cmp rows q)
lookup-map [] q = refl
lookup-map (e ∷ rows) q = by (is_key q e.0) (lookup-map rows q)
  where
    by : (b : Bool) → row_in (map without_owner rows) q ≡ row_of (value_at key_cmp rows q)
        → cond b (Some e.1.1) (row_in (map without_owner rows) q) ≡ row_of (cond b (Some e.1) (value_at key_cmp rows q))
    by true rest = refl
    by false rest = rest

row_of-only : (s : ℕ) (there : Option (ℕ × RowValue)) → row_of (only s there) ≡ own_row s there
row_of-only s None = refl
row_of-only s (Some there) = by (there.0 == s)
  where
    by : (b : Bool) → row_of (cond b (Some there) None) ≡ cond b (Some there.1) None
    by true = refl
    by false = refl

pub own-rising : (s : ℕ) (rows : TargetRows) → IsRising key_cmp rows → IsRising key_cmp (own_rows s rows)
own-rising s rows rising = rising-map (own_part s rows) (rising_part s rows rising)

pub own-at : (s : ℕ) (rows : TargetRows) (q : KeyValue) → IsRising key_cmp rows → row_in (own_rows s rows) q ≡ own_row s (value_at key_cmp rows q)
own-at s rows q rising = lookup-map (own_part s rows) q ∙ ap row_of (value_in_part s rows q rising) ∙ row_of-only s (value_at key_cmp rows q)

-- ---- the rows of a cut

pub cut-rising : (ties : Ties) (state : State) → IsRising key_cmp (cut_rows state)
cut-rising ties state = rising-filter (λ row. is_inside state.marks row.0) (kept_rows state.plan state.list state.applied) (list-rising ties state.plan state.list state.applied)

pub cut-at : (ties : Ties) (state : State) (q : KeyValue) → row_in (cut_rows state) q ≡ cut_of state q
cut-at ties state q =
    lookup-filter ties (is_inside state.marks) (kept_rows state.plan state.list state.applied) q
    ∙ ap (λ (o : Option RowValue). cond (is_inside state.marks q) o None) (list-kept ties state.plan state.list state.applied q)

pub own-is_cut : (ties : Ties) (board : Meaning) → IsLawful board → (s : ℕ) (state : State) → slice_get board.streams s ≡ Some state → own_rows s board.rows ≡ cut_rows state
own-is_cut ties board lawful s state here =
    same_rows ties (own_rows s board.rows) (cut_rows state) (own-rising s board.rows lawful.rising) (cut-rising ties state)
    (λ q. own-at s board.rows q lawful.rising ∙ lawful.cuts s q ∙ ap (λ (o : Option State). option_and_then (λ state. cut_of state q) o) here ∙ sym (cut-at ties state q))
