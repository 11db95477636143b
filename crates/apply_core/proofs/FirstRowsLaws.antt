-- The rows of a checkpoint's first stream, which nothing stands in the way of.
use Rattle.std.proofs.Common.{◌≡◌, ℕ, zero, suc, List, [], ◌∷◌, ◌++◌, map, take, Some, slice_get, append_assoc, append-nil, refl, sym, ap, subst, ◌∙◌}
use Rattle.std.proofs.lemmas.List.{map-append}
use Rattle.std.proofs.lemmas.Option.{same_Some, none-some}
use Rattle.std.specs.declared.cmp.Ordering.TheVariants.{Less}
use Rattle.std.specs.List.{AllByRecursion}
use Rattle.std.specs.Ordering.{ordering_reverse, match_ordering}
use Rattle.pk_copy.specs.KeyOrder.{key_cmp}
use Rattle.pk_copy.specs.KeyOrderLaws.{key_cmp_total}
use Rattle.pk_copy.specs.KeyValue.{KeyValue}
use Rattle.target_tables.specs.Rising.{IsRising, AreBelow}
use Rattle.target_tables.proofs.Order.{before_middle}
use Rattle.source_feed.specs.History.{RowValue}
use Rattle.source_feed.specs.Image.{ImageRows}
use Rattle.board_laws.specs.Meaning.{State, TargetRows}
use Rattle.board_laws.specs.Compatible.{AreApart}
use Rattle.board_laws.specs.Joined.{cut_rows, with_row, with_rows}
use Rattle.apply_core.specs.Private.Together.{AreTogether, of_first}

-- ---- rows by rising key, one behind another

above_first : (key : KeyValue) (rows : ImageRows) → AllByRecursion (λ row. key_cmp key row.0 ≡ Less) rows → AllByRecursion (λ row. key_cmp key row.0 ≡ Less) (map of_first rows)
above_first key [] h = tt
above_first key (row ∷ rows) h = (h.0, above_first key rows h.1)

rising_first : (rows : ImageRows) → IsRising key_cmp rows → IsRising key_cmp (map of_first rows)
rising_first [] h = tt
rising_first (row ∷ rows) h = (above_first row.0 rows h.0, rising_first rows h.1)

-- a fact of all rows is one of the row between two parts of them
between : (P : KeyValue × RowValue → Type 0) (before : ImageRows) (row : KeyValue × RowValue) (later : ImageRows) → AllByRecursion P (before ++ row ∷ later) → P row
between P [] row later h = h.0
between P (first ∷ before) row later h = between P before row later h.1

-- the next row is behind those before it
below_next : (before : ImageRows) (row : KeyValue × RowValue) (later : ImageRows) → IsRising key_cmp (before ++ row ∷ later) → AreBelow key_cmp row.0 (map of_first before)
below_next [] row later h = tt
below_next (first ∷ before) row later h = (between (λ (after : KeyValue × RowValue). key_cmp first.0 after.0 ≡ Less) before row later h.0, below_next before row later h.1)

-- the same of rows that are taken one after another
pub below_taken : (before left later whole : ImageRows) (row : KeyValue × RowValue) → left ≡ row ∷ later → before ++ left ≡ whole → IsRising key_cmp whole → AreBelow key_cmp row.0 (map of_first before)
below_taken before left later whole row is sum h =
    below_next before row later (subst (IsRising key_cmp) (sym sum ∙ ap (λ (rows : ImageRows). before ++ rows) is) h)

-- one row more
pub first_more : (before : ImageRows) (row : KeyValue × RowValue) (old new : TargetRows) → old ≡ map of_first before → new ≡ old ++ of_first row ∷ [] → new ≡ map of_first (before ++ row ∷ [])
first_more before row old new is pushed =
    pushed ∙ ap (λ (rows : TargetRows). rows ++ of_first row ∷ []) is ∙ sym (map-append of_first before (row ∷ []))

-- ---- a row that is behind all others is put at the end

abbrev Entry : Type 0
Entry = KeyValue × (ℕ × RowValue)

with_last : (row : Entry) (there : TargetRows) → AreBelow key_cmp row.0 there → with_row row there ≡ there ++ row ∷ []
with_last row [] h = refl
with_last row (first ∷ later) h =
    ap (λ order. match_ordering order (row ∷ first ∷ later) (first ∷ later) (first ∷ with_row row later)) (key_cmp_total.antisymm row.0 first.0 ∙ ap ordering_reverse h.0)
    ∙ ap (λ (rows : TargetRows). first ∷ rows) (with_last row later h.1)

with_rising : (rows : ImageRows) (there : TargetRows) → IsRising key_cmp (there ++ map of_first rows) → with_rows 0 rows there ≡ there ++ map of_first rows
with_rising [] there h = sym (append-nil there)
with_rising (row ∷ rows) there h =
    let below = before_middle (λ a b. key_cmp a b ≡ Less) there (of_first row) (map of_first rows) h in
    let parts : (there ++ of_first row ∷ []) ++ map of_first rows ≡ there ++ of_first row ∷ map of_first rows = append_assoc there (of_first row ∷ []) (map of_first rows) in
    ap (with_rows 0 rows) (with_last (of_first row) there below) ∙ with_rising rows (there ++ of_first row ∷ []) (subst (IsRising key_cmp) (sym parts) h) ∙ parts

-- ---- one stream alone

none_apart : AreApart []
none_apart s t x y key p q a b = absurd (none-some x p)

one_apart : (state : State) → AreApart (state ∷ [])
one_apart state zero zero x y key p q a b = refl
one_apart state zero (suc t) x y key p q a b = absurd (none-some y q)
one_apart state (suc s) t x y key p q a b = absurd (none-some x p)

-- of no stream there is no row
pub none_together : (states : List State) (rows : TargetRows) → rows ≡ [] → AreTogether (take 0 states) rows
none_together [] rows is = record { apart = none_apart; target = is }
none_together (state ∷ states) rows is = record { apart = none_apart; target = is }

-- the rows of the first stream are those of its cut
pub first_together : (states : List State) (state : State) (own : ImageRows) (rows : TargetRows) → slice_get states 0 ≡ Some state → IsRising key_cmp own → own ≡ cut_rows state → rows ≡ map of_first own → AreTogether (take 1 states) rows
first_together [] state own rows here rise agree is = absurd (none-some state here)
first_together (one ∷ states) state own rows here rise agree is = record {
  apart = one_apart one;
  target =
      is
      ∙ sym (with_rising own [] (rising_first own rise))
      ∙ ap (λ (rows : ImageRows). with_rows 0 rows []) (agree ∙ ap cut_rows (sym (same_Some one state here)));
}
