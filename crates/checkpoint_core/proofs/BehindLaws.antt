-- Rows by rising key, and one more behind them.
use Rattle.std.proofs.Common.{◌≡◌, ℕ, ◌+◌, ◌-◌, ◌<◌, [], ◌∷◌, ◌++◌, length, take, drop, get_or, append-nil, sym, ap, ◌∙◌, subst, arith, Some}
use Rattle.std.specs.Prelude.{slice_get, IsTrue}
use Rattle.std.specs.Ordering.{is_lt}
use Rattle.std.proofs.lemmas.Option.{slice_get_within, slice_get-get_or}
use Rattle.std.proofs.lemmas.List.{drop_all}
use Rattle.std.specs.declared.cmp.Ordering.TheVariants.{Less}
use Rattle.list_laws.proofs.Truths.{is_less, less_is}
use Rattle.list_laws.proofs.Fronts.{each}
use Rattle.pk_copy.specs.KeyOrder.{key_cmp}
use Rattle.pk_copy.specs.KeyOrderLaws.{key_cmp_total}
use Rattle.pk_copy.specs.KeyValue.{KeyValue}
use Rattle.source_feed.specs.History.{RowValue}
use Rattle.source_feed.specs.Image.{ImageRows}
use Rattle.target_tables.specs.Rising.{IsRising, AreBelow}
use Rattle.target_tables.proofs.Order.{all_join, all_right, before_middle, ordered_with, split_at}

-- a row behind the others at a greater key
pub rising_pushed : (rows : ImageRows) (row : KeyValue × RowValue) → IsRising key_cmp rows → AreBelow key_cmp row.0 rows → IsRising key_cmp (rows ++ row ∷ [])
rising_pushed rows row rising below =
    ordered_with (λ a b. key_cmp a b ≡ Less) rows row [] (subst (IsRising key_cmp) (sym (append-nil rows)) rising) below tt

-- where the last key is less than another one, so are all
below_last : (front : ImageRows) (last : KeyValue × RowValue) (key : KeyValue) → IsRising key_cmp (front ++ last ∷ []) → key_cmp last.0 key ≡ Less → AreBelow key_cmp key (front ++ last ∷ [])
below_last front last key rising less =
    let P : KeyValue × RowValue → Type 0 = λ e. key_cmp e.0 key ≡ Less in
    let before = before_middle (λ a b. key_cmp a b ≡ Less) front last [] rising in
    all_join P front (last ∷ []) (each (λ e. key_cmp e.0 last.0 ≡ Less) P (λ e l. key_cmp_total.trans e.0 last.0 key l less) front before) (less, tt)

-- and the other way round
last_below : (front : ImageRows) (last : KeyValue × RowValue) (key : KeyValue) → AreBelow key_cmp key (front ++ last ∷ []) → key_cmp last.0 key ≡ Less
last_below front last key below = (all_right (λ e. key_cmp e.0 key ≡ Less) front (last ∷ []) below).0

-- rows as those before the last one, and it
last_parts : (rows : ImageRows) (last : KeyValue × RowValue) → Some last ≡ slice_get rows (length rows - 1) → rows ≡ take (length rows - 1) rows ++ last ∷ []
last_parts rows last e =
    let n : ℕ = length rows - 1 in
    let inside : n < length rows = slice_get_within rows n last (sym e) in
    let read : Some last ≡ Some (get_or rows n last) = e ∙ slice_get-get_or rows n last inside in
    let is : last ≡ get_or rows n last = cc in
    let nothing : drop (n + 1) rows ≡ [] = drop_all (n + 1) rows (omega (arith, inside)) in
    split_at rows n last inside is ∙ ap (λ (rest : ImageRows). take n rows ++ last ∷ rest) nothing

-- the last key tells whether another one is behind all
pub behind_last : (rows : ImageRows) (last : KeyValue × RowValue) (key : KeyValue) → IsRising key_cmp rows → Some last ≡ slice_get rows (length rows - 1)
    → (IsTrue (is_lt (key_cmp last.0 key)) → AreBelow key_cmp key rows) × (AreBelow key_cmp key rows → IsTrue (is_lt (key_cmp last.0 key)))
behind_last rows last key rising e =
    let front : ImageRows = take (length rows - 1) rows in
    let parts : rows ≡ front ++ last ∷ [] = last_parts rows last e in (
      λ less. subst (AreBelow key_cmp key) (sym parts) (below_last front last key (subst (IsRising key_cmp) parts rising) (is_less _ less)),
      λ below. less_is _ (last_below front last key (subst (AreBelow key_cmp key) parts below)),
    )
