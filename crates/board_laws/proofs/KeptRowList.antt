-- The list of kept rows: at each key the kept columns of the row that stands there.
use Rattle.std.proofs.Common.{◌≡◌, ℕ, Bool, true, false, cond, List, [], ◌∷◌, map, Some, refl, sym, ap, ◌∙◌}
use Rattle.std.specs.declared.cmp.Ordering.TheVariants.{Less}
use Rattle.std.specs.List.{AllByRecursion}
use Rattle.std.specs.Map.{lookup}
use Rattle.std.specs.Option.{option_map}
use Rattle.filter_rule.specs.PlanValue.{PlanValue}
use Rattle.pk_copy.specs.KeyOrder.{key_cmp}
use Rattle.pk_copy.specs.KeyValue.{KeyValue}
use Rattle.target_tables.specs.Rising.{IsRising}
use Rattle.source_feed.specs.History.{kept_of, kept_at}
use Rattle.source_feed.specs.Image.{ImageRows, row_in}
use Rattle.source_feed.specs.Touches.{PreparedValue}
use Rattle.board_laws.specs.KeptRows.{passed_rows, kept_row, kept_rows}
use Rattle.board_laws.proofs.KeptList.{list-is_passed}
use Rattle.board_laws.proofs.Lookups.{Ties, is_key, same_key}

above-kept : (plan : PlanValue) (key : KeyValue) (rows : ImageRows) → AllByRecursion (λ later. key_cmp key later.0 ≡ Less) rows → AllByRecursion (λ later. key_cmp key later.0 ≡ Less) (map (kept_row plan) rows)
above-kept plan key [] h = tt
above-kept plan key (row ∷ rows) h = (h.0, above-kept plan key rows h.1)

pub rising-kept : (plan : PlanValue) (rows : ImageRows) → IsRising key_cmp rows → IsRising key_cmp (map (kept_row plan) rows)
rising-kept plan [] h = tt
rising-kept plan (row ∷ rows) h = (above-kept plan row.0 rows h.0, rising-kept plan rows h.1)

pub lookup-kept : (ties : Ties) (plan : PlanValue) (key : KeyValue) (rows : ImageRows) → lookup (is_key key) (map (kept_row plan) rows) ≡ option_map (kept_of plan key) (lookup (is_key key) rows)
lookup-kept ties plan key [] = refl
lookup-kept ties plan key (row ∷ rows) = by (is_key key row.0) refl (lookup-kept ties plan key rows)
  where
    by : (b : Bool) → is_key key row.0 ≡ b → lookup (is_key key) (map (kept_row plan) rows) ≡ option_map (kept_of plan key) (lookup (is_key key) rows)
        → cond (is_key key row.0) (Some (kept_of plan row.0 row.1)) (lookup (is_key key) (map (kept_row plan) rows)) ≡ option_map (kept_of plan key) (cond (is_key key row.0) (Some row.1) (lookup (is_key key) rows))
    by true e rest =
        ap (λ b. cond b (Some (kept_of plan row.0 row.1)) (lookup (is_key key) (map (kept_row plan) rows))) e
        ∙ ap (λ (k : KeyValue). Some (kept_of plan k row.1)) (sym (same_key ties key row.0 e))
        ∙ sym (ap (λ b. option_map (kept_of plan key) (cond b (Some row.1) (lookup (is_key key) rows))) e)
    by false e rest =
        ap (λ b. cond b (Some (kept_of plan row.0 row.1)) (lookup (is_key key) (map (kept_row plan) rows))) e
        ∙ rest
        ∙ sym (ap (λ b. option_map (kept_of plan key) (cond b (Some row.1) (lookup (is_key key) rows))) e)

-- the list of kept rows rises, and has at each key what is kept there
pub list-rising : (ties : Ties) (plan : PlanValue) (history : List PreparedValue) (n : ℕ) → IsRising key_cmp (kept_rows plan history n)
list-rising ties plan history n = rising-kept plan (passed_rows history n) (list-is_passed ties history n).rising

pub list-kept : (ties : Ties) (plan : PlanValue) (history : List PreparedValue) (n : ℕ) (key : KeyValue) → row_in (kept_rows plan history n) key ≡ kept_at plan history n key
list-kept ties plan history n key =
    lookup-kept ties plan key (passed_rows history n) ∙ ap (option_map (kept_of plan key)) ((list-is_passed ties history n).each_key key)
