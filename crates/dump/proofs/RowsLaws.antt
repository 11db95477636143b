-- Rows by rising key, and one more behind them.
use Rattle.std.proofs.Common.{◌≡◌, ℕ, ◌+◌, ◌-◌, ◌<◌, [], ◌∷◌, ◌++◌, length, take, drop, get_or, append-nil, sym, ap, ◌∙◌, subst, arith, Some, None}
use Rattle.std.specs.Prelude.{slice_get, IsTrue}
use Rattle.std.specs.Ordering.{is_lt}
use Rattle.std.proofs.lemmas.Option.{slice_get_within, slice_get-get_or}
use Rattle.std.proofs.lemmas.List.{drop_all, take-append-drop}
use Rattle.std.proofs.lemmas.Cmp.{tied_itself}
use Rattle.std.specs.declared.cmp.Ordering.TheVariants.{Less, Equal}
use Rattle.list_laws.proofs.Truths.{is_less, less_is}
use Rattle.list_laws.proofs.Fronts.{each}
use Rattle.pk_copy.specs.KeyOrder.{key_cmp}
use Rattle.pk_copy.specs.KeyOrderLaws.{key_cmp_total}
use Rattle.pk_copy.specs.KeyValue.{KeyValue}
use Rattle.target_tables.specs.Rising.{IsRising, AreBelow}
use Rattle.target_tables.proofs.Order.{all_join, all_right, before_middle, ordered_with, split_at}
use Rattle.target_tables.specs.Places.{IsAt, IsGap}
use Rattle.target_tables.proofs.Values.{found, absent}
use Rattle.dump.specs.DumpRowsValue.{RowValue, DumpRowsValue, row_with_key}

-- a row behind the others at a greater key
pub rising_pushed : (rows : DumpRowsValue) (row : KeyValue × RowValue) → IsRising key_cmp rows → AreBelow key_cmp row.0 rows → IsRising key_cmp (rows ++ row ∷ [])
rising_pushed rows row rising below =
    ordered_with (λ a b. key_cmp a b ≡ Less) rows row [] (subst (IsRising key_cmp) (sym (append-nil rows)) rising) below tt

-- where the last key is less than another one, so are all
below_last : (front : DumpRowsValue) (last : KeyValue × RowValue) (key : KeyValue) → IsRising key_cmp (front ++ last ∷ []) → key_cmp last.0 key ≡ Less → AreBelow key_cmp key (front ++ last ∷ [])
below_last front last key rising less =
    let P : KeyValue × RowValue → Type 0 = λ e. key_cmp e.0 key ≡ Less in
    let before = before_middle (λ a b. key_cmp a b ≡ Less) front last [] rising in
    all_join P front (last ∷ []) (each (λ e. key_cmp e.0 last.0 ≡ Less) P (λ e l. key_cmp_total.trans e.0 last.0 key l less) front before) (less, tt)

-- and the other way round
last_below : (front : DumpRowsValue) (last : KeyValue × RowValue) (key : KeyValue) → AreBelow key_cmp key (front ++ last ∷ []) → key_cmp last.0 key ≡ Less
last_below front last key below = (all_right (λ e. key_cmp e.0 key ≡ Less) front (last ∷ []) below).0

-- rows as those before the last one, and it
last_parts : (rows : DumpRowsValue) (last : KeyValue × RowValue) → Some last ≡ slice_get rows (length rows - 1) → rows ≡ take (length rows - 1) rows ++ last ∷ []
last_parts rows last e =
    let n : ℕ = length rows - 1 in
    let inside : n < length rows = slice_get_within rows n last (sym e) in
    let read : Some last ≡ Some (get_or rows n last) = e ∙ slice_get-get_or rows n last inside in
    let is : last ≡ get_or rows n last = cc in
    let nothing : drop (n + 1) rows ≡ [] = drop_all (n + 1) rows (omega (arith, inside)) in
    split_at rows n last inside is ∙ ap (λ (rest : DumpRowsValue). take n rows ++ last ∷ rest) nothing

-- the last key tells whether another one is behind all
pub behind_last : (rows : DumpRowsValue) (last : KeyValue × RowValue) (key : KeyValue) → IsRising key_cmp rows → Some last ≡ slice_get rows (length rows - 1)
    → (IsTrue (is_lt (key_cmp last.0 key)) → AreBelow key_cmp key rows) × (AreBelow key_cmp key rows → IsTrue (is_lt (key_cmp last.0 key)))
behind_last rows last key rising e =
    let front : DumpRowsValue = take (length rows - 1) rows in
    let parts : rows ≡ front ++ last ∷ [] = last_parts rows last e in (
      λ less. subst (AreBelow key_cmp key) (sym parts) (below_last front last key (subst (IsRising key_cmp) parts rising) (is_less _ less)),
      λ below. less_is _ (last_below front last key (subst (AreBelow key_cmp key) parts below)),
    )

-- ---- the row at a key

pub row_there : (rows : DumpRowsValue) (key : KeyValue) (i : ℕ) (row : KeyValue × RowValue) → IsAt key_cmp rows key i → row ≡ get_or rows i row → Some row.1 ≡ row_with_key rows key
row_there rows key i row at is =
    let same : key_cmp row.0 key ≡ Equal = ap (λ (e : KeyValue × RowValue). key_cmp e.0 key) is ∙ at.here row in
    let parts : rows ≡ take i rows ++ row ∷ drop (i + 1) rows = split_at rows i row at.inside is in
    sym (ap (λ (all : DumpRowsValue). row_with_key all key) parts ∙ found key_cmp_total (take i rows) row (drop (i + 1) rows) key key at.below same (tied_itself key_cmp_total key))

pub no_row_there : (rows : DumpRowsValue) (key : KeyValue) (i : ℕ) → IsGap key_cmp rows key i → None ≡ row_with_key rows key
no_row_there rows key i gap =
    sym (ap (λ (all : DumpRowsValue). row_with_key all key) (sym (take-append-drop i rows)) ∙ absent key_cmp_total (take i rows) (drop i rows) key key gap.below gap.above (tied_itself key_cmp_total key))
