-- The rows of a board that is made of states: at each key the row of one of the cuts.
use Rattle.std.proofs.Common.{◌≡◌, ◌≢◌, ◌==◌, ℕ, zero, suc, ◌+◌, ◌≤◌, Bool, true, false, cond, List, [], ◌∷◌, length, Option, Some, None, Ordering, slice_get, refl, sym, ap, ◌∙◌, arith}
use Rattle.std.proofs.lemmas.Bool.{eqb-false}
use Rattle.std.proofs.lemmas.Option.{same_Some, none-some}
use borrow.Author.Tests.{eqb-true}
use Rattle.std.specs.declared.cmp.Ordering.TheVariants.{Less, Equal, Greater}
use Rattle.std.specs.Cmp.{Equal-is}
use Rattle.std.specs.List.{AllByRecursion}
use Rattle.std.specs.Option.{option_or, option_map, option_and_then}
use Rattle.std.specs.Ordering.{ordering_reverse, is_le, match_ordering}
use Rattle.list_laws.proofs.Fronts.{each}
use Rattle.list_laws.proofs.Choices.{or_none}
use Rattle.pk_copy.specs.KeyOrder.{key_cmp}
use Rattle.pk_copy.specs.KeyOrderLaws.{key_cmp_total}
use Rattle.pk_copy.specs.KeyValue.{KeyValue}
use Rattle.pk_copy.specs.Marks.{is_inside}
use Rattle.target_tables.specs.Contents.{value_at}
use Rattle.target_tables.specs.Rising.{IsRising}
use Rattle.source_feed.specs.History.{RowValue}
use Rattle.source_feed.specs.Image.{ImageRows, row_in}
use Rattle.board_laws.specs.Meaning.{State, TargetRows}
use Rattle.board_laws.specs.KeptRows.{kept_rows}
use Rattle.board_laws.specs.Cut.{cut_of, cut_in, own_row}
use Rattle.board_laws.specs.Lawful.{IsSoundState, IsLawful}
use Rattle.board_laws.proofs.KeptRowList.{list-kept}
use Rattle.board_laws.proofs.Lookups.{Ties, is_key, is_itself, same_key, lookup-filter, none_above}
use Rattle.board_laws.specs.Joined.{cut_rows, with_row, with_rows, rows_from, board_of}
use Rattle.board_laws.specs.Compatible.{AreApart}

abbrev Entry : Type 0
Entry = KeyValue × (ℕ × RowValue)

-- ---- one row more

abbrev AreAbove : KeyValue → TargetRows → Type 0
AreAbove k = AllByRecursion (λ later. key_cmp k later.0 ≡ Less)

above_with : (k : KeyValue) (row : Entry) (rows : TargetRows) → key_cmp k row.0 ≡ Less → AreAbove k rows → AreAbove k (with_row row rows)
above_with k row [] less above = (less, tt)
above_with k row (first ∷ rows) less above = by (key_cmp row.0 first.0) (above_with k row rows less above.1)
  where
    by : (r : Ordering) → AreAbove k (with_row row rows) → AreAbove k (match_ordering r (row ∷ first ∷ rows) (first ∷ rows) (first ∷ with_row row rows))
    by Less rest = (less, above)
    by Equal rest = above
    by Greater rest = (above.0, rest)

rising_with : (row : Entry) (rows : TargetRows) → IsRising key_cmp rows → IsRising key_cmp (with_row row rows)
rising_with row [] h = (tt, tt)
rising_with row (first ∷ rows) h = by (rising_with row rows h.1) (key_cmp row.0 first.0) refl
  where
    by : IsRising key_cmp (with_row row rows) → (r : Ordering) → key_cmp row.0 first.0 ≡ r → IsRising key_cmp (match_ordering r (row ∷ first ∷ rows) (first ∷ rows) (first ∷ with_row row rows))
    by rest Less e = ((e, each (λ later. key_cmp first.0 later.0 ≡ Less) (λ later. key_cmp row.0 later.0 ≡ Less) (λ later less. key_cmp_total.trans row.0 first.0 later.0 e less) rows h.0), h)
    by rest Equal e = h
    by rest Greater e = (above_with first.0 row rows (key_cmp_total.antisymm first.0 row.0 ∙ ap ordering_reverse e) h.0, rest)

abbrev here_if : Bool → ℕ × RowValue → Option (ℕ × RowValue)
here_if b value = cond b (Some value) None

-- the new row stands where none stood
value_with : (ties : Ties) (row : Entry) (rows : TargetRows) (k : KeyValue) → IsRising key_cmp rows → value_at key_cmp (with_row row rows) k ≡ option_or (value_at key_cmp rows k) (here_if (is_key k row.0) row.1)
value_with ties row [] k h = refl
value_with ties row (first ∷ rows) k h = by (value_with ties row rows k h.1) (key_cmp row.0 first.0) refl
  where
    old : Option (ℕ × RowValue)
    old = value_at key_cmp (first ∷ rows) k

    above : key_cmp row.0 first.0 ≡ Less → is_key k row.0 ≡ true → old ≡ None
    above less same =
        let key : k ≡ row.0 = same_key ties k row.0 same in
        let before : key_cmp k first.0 ≡ Less = ap (λ (q : KeyValue). key_cmp q first.0) key ∙ less in
        none_above k row.0 (first ∷ rows) (ap is_le ((Equal-is (key_cmp k row.0)).0 same))
        (less, each (λ later. key_cmp first.0 later.0 ≡ Less) (λ later. key_cmp row.0 later.0 ≡ Less) (λ later e. key_cmp_total.trans row.0 first.0 later.0 less e) rows h.0)

    in_front : key_cmp row.0 first.0 ≡ Less → (b : Bool) → is_key k row.0 ≡ b → cond b (Some row.1) old ≡ option_or old (here_if b row.1)
    in_front less true same = sym (ap (λ (o : Option (ℕ × RowValue)). option_or o (Some row.1)) (above less same))
    in_front less false other = sym (or_none old)

    at_first : key_cmp row.0 first.0 ≡ Equal → (b : Bool) → is_key k row.0 ≡ b → old ≡ option_or old (here_if b row.1)
    at_first tie true same =
        let key : k ≡ first.0 = same_key ties k row.0 same ∙ ties row.0 first.0 tie in
        let there : old ≡ Some first.1 = ap (λ b. cond b (Some first.1) (value_at key_cmp rows k)) (ap (λ (q : KeyValue). is_key q first.0) key ∙ is_itself first.0) in
        there ∙ sym (ap (λ (o : Option (ℕ × RowValue)). option_or o (Some row.1)) there)
    at_first tie false other = sym (or_none old)

    behind : value_at key_cmp (with_row row rows) k ≡ option_or (value_at key_cmp rows k) (here_if (is_key k row.0) row.1) → (b : Bool)
        → cond b (Some first.1) (value_at key_cmp (with_row row rows) k) ≡ option_or (cond b (Some first.1) (value_at key_cmp rows k)) (here_if (is_key k row.0) row.1)
    behind rest true = refl
    behind rest false = rest

    by : value_at key_cmp (with_row row rows) k ≡ option_or (value_at key_cmp rows k) (here_if (is_key k row.0) row.1) → (r : Ordering) → key_cmp row.0 first.0 ≡ r
        → value_at key_cmp (match_ordering r (row ∷ first ∷ rows) (first ∷ rows) (first ∷ with_row row rows)) k ≡ option_or old (here_if (is_key k row.0) row.1)
    by rest Less e = in_front e (is_key k row.0) refl
    by rest Equal e = at_first e (is_key k row.0) refl
    by rest Greater e = behind rest (is_key k first.0)

-- ---- the rows of one stream more

rising_rows : (s : ℕ) (rows : ImageRows) (there : TargetRows) → IsRising key_cmp there → IsRising key_cmp (with_rows s rows there)
rising_rows s [] there h = h
rising_rows s (row ∷ rows) there h = rising_rows s rows (with_row (row.0, (s, row.1)) there) (rising_with (row.0, (s, row.1)) there h)

abbrev as_row : ℕ → Option RowValue → Option (ℕ × RowValue)
as_row s o = option_map (λ (row : RowValue). (s, row)) o

value_rows : (ties : Ties) (s : ℕ) (rows : ImageRows) (there : TargetRows) (k : KeyValue) → IsRising key_cmp there → value_at key_cmp (with_rows s rows there) k ≡ option_or (value_at key_cmp there k) (as_row s (row_in rows k))
value_rows ties s [] there k h = sym (or_none (value_at key_cmp there k))
value_rows ties s (row ∷ rows) there k h =
    value_rows ties s rows (with_row (row.0, (s, row.1)) there) k (rising_with (row.0, (s, row.1)) there h)
    ∙ ap (λ (o : Option (ℕ × RowValue)). option_or o (as_row s (row_in rows k))) (value_with ties (row.0, (s, row.1)) there k h)
    ∙ by (value_at key_cmp there k) (is_key k row.0)
  where
    by : (v : Option (ℕ × RowValue)) (b : Bool) → option_or (option_or v (here_if b (s, row.1))) (as_row s (row_in rows k)) ≡ option_or v (as_row s (cond b (Some row.1) (row_in rows k)))
    by None true = refl
    by None false = refl
    by (Some x) true = refl
    by (Some x) false = refl

-- ---- the rows of all streams

-- the row of the cut of one of streams s, s + 1, ..: the last of them that has one there
abbrev pub row_of_one : ℕ → List State → KeyValue → Option (ℕ × RowValue)
row_of_one s [] k = None
row_of_one s (state ∷ later) k = option_or (row_of_one (s + 1) later k) (as_row s (cut_of state k))

cut_row : (ties : Ties) (state : State) (k : KeyValue) → row_in (cut_rows state) k ≡ cut_of state k
cut_row ties state k =
    lookup-filter ties (is_inside state.marks) (kept_rows state.plan state.list state.applied) k
    ∙ ap (λ (o : Option RowValue). cond (is_inside state.marks k) o None) (list-kept ties state.plan state.list state.applied k)

pub rising_from : (s : ℕ) (states : List State) → IsRising key_cmp (rows_from s states)
rising_from s [] = tt
rising_from s (state ∷ later) = rising_rows s (cut_rows state) (rows_from (s + 1) later) (rising_from (s + 1) later)

pub value_from : (ties : Ties) (s : ℕ) (states : List State) (k : KeyValue) → value_at key_cmp (rows_from s states) k ≡ row_of_one s states k
value_from ties s [] k = refl
value_from ties s (state ∷ later) k =
    value_rows ties s (cut_rows state) (rows_from (s + 1) later) k (rising_from (s + 1) later)
    ∙ ap (λ (o : Option (ℕ × RowValue)). option_or o (as_row s (row_in (cut_rows state) k))) (value_from ties (s + 1) later k)
    ∙ ap (λ (o : Option RowValue). option_or (row_of_one (s + 1) later k) (as_row s o)) (cut_row ties state k)

-- ---- whose row it is

-- the row is that of a stream's cut
pub record IsRowOf (s : ℕ) (states : List State) (k : KeyValue) (value : ℕ × RowValue) : Type 0 where
  pub place : ℕ
  pub state : State
  pub number : value.0 ≡ s + place
  pub here : slice_get states place ≡ Some state
  pub cut : cut_of state k ≡ Some value.1

pub whose : (s : ℕ) (states : List State) (k : KeyValue) (value : ℕ × RowValue) → row_of_one s states k ≡ Some value → IsRowOf s states k value
whose s [] k value e = absurd (none-some value e)
whose s (state ∷ later) k value e = by (λ h. whose (s + 1) later k value h) (row_of_one (s + 1) later k) refl (cut_of state k) refl e
  where
    by : (row_of_one (s + 1) later k ≡ Some value → IsRowOf (s + 1) later k value) → (o : Option (ℕ × RowValue)) → row_of_one (s + 1) later k ≡ o → (c : Option RowValue) → cut_of state k ≡ c → option_or o (as_row s c) ≡ Some value → IsRowOf s (state ∷ later) k value
    by rest_of (Some x) p c q e =
        let rest : IsRowOf (s + 1) later k value = rest_of (p ∙ e) in
        record { place = suc rest.place; state = rest.state; number = (let n : value.0 ≡ s + 1 + rest.place = rest.number in omega (arith, n)); here = rest.here; cut = rest.cut }
    by rest_of None p None q e = absurd (none-some value e)
    by rest_of None p (Some row) q e =
        let same : (s, row) ≡ value = same_Some (s, row) value e in
        record {
          place = 0;
          state = state;
          number = (let n : value.0 ≡ s = sym (ap (λ (v : ℕ × RowValue). v.0) same) in omega (arith, n));
          here = refl;
          cut = q ∙ ap (λ (v : ℕ × RowValue). Some v.1) same;
        }

-- where a stream has a row, one of the rows stands there
pub some_row : (s : ℕ) (states : List State) (k : KeyValue) (i : ℕ) (state : State) → slice_get states i ≡ Some state → cut_of state k ≢ None → row_of_one s states k ≢ None
some_row s [] k i state e c = cc
some_row s (x ∷ later) k zero state e c =
    by (row_of_one (s + 1) later k) (cut_of x k) (λ n. c (ap (λ (z : State). cut_of z k) (sym (same_Some x state e)) ∙ n))
  where
    by : (o : Option (ℕ × RowValue)) (v : Option RowValue) → (v ≡ None → ⊥) → option_or o (as_row s v) ≢ None
    by (Some y) v c n = none-some y (sym n)
    by None None c n = c refl
    by None (Some row) c n = none-some (s, row) (sym n)
some_row s (x ∷ later) k (suc i) state e c = by (row_of_one (s + 1) later k) (some_row (s + 1) later k i state e c)
  where
    by : (o : Option (ℕ × RowValue)) → o ≢ None → option_or o (as_row s (cut_of x k)) ≢ None
    by None c n = c refl
    by (Some y) c n = none-some y (sym n)

own-if : (s : ℕ) (value : ℕ × RowValue) (b : Bool) → (value.0 == s) ≡ b → own_row s (Some value) ≡ cond b (Some value.1) None
own-if s value b e = ap (λ b. cond b (Some value.1) None) e

abbrev pub cut_if : KeyValue → Option State → Option RowValue
cut_if k o = option_and_then (λ state. cut_of state k) o

-- where no key has rows in two cuts each stream has those of its cut
pub own_cuts : (ties : Ties) (states : List State) → AreApart states → (s : ℕ) (k : KeyValue) → own_row s (value_at key_cmp (rows_from 0 states) k) ≡ cut_in (board_of states) s k
own_cuts ties states apart s k = ap (own_row s) (value_from ties 0 states k) ∙ by (row_of_one 0 states k) refl (slice_get states s) refl
  where
    no_row : row_of_one 0 states k ≡ None → (state : State) → slice_get states s ≡ Some state → (c : Option RowValue) → cut_of state k ≡ c → None ≡ c
    no_row none state here None e = refl
    no_row none state here (Some row) e = absurd (some_row 0 states k s state here (λ n. none-some row (sym n ∙ e)) none)

    other : (value : ℕ × RowValue) → IsRowOf 0 states k value → value.0 ≢ s → (state : State) → slice_get states s ≡ Some state → (c : Option RowValue) → cut_of state k ≡ c → None ≡ c
    other value of ne state here None e = refl
    other value of ne state here (Some row) e =
        let place : of.place ≡ s = apart of.place s of.state state k of.here here (λ n. none-some value.1 (sym n ∙ of.cut)) (λ n. none-some row (sym n ∙ e)) in
        let number : value.0 ≡ 0 + of.place = of.number in
        absurd (ne (omega (arith, place, number)))

    by : (o : Option (ℕ × RowValue)) → row_of_one 0 states k ≡ o → (p : Option State) → slice_get states s ≡ p → own_row s o ≡ cut_if k (slice_get states s)
    by None e None here = sym (ap (cut_if k) here)
    by None e (Some state) here = no_row e state here (cut_of state k) refl ∙ sym (ap (cut_if k) here)
    by (Some value) e p here = mine (value.0 == s) refl p here
      where
        of : IsRowOf 0 states k value
        of = whose 0 states k value e

        mine : (b : Bool) → (value.0 == s) ≡ b → (p : Option State) → slice_get states s ≡ p → own_row s (Some value) ≡ cut_if k (slice_get states s)
        mine true same p here =
            let number : value.0 ≡ 0 + of.place = of.number in
            let at : value.0 ≡ s = eqb-true value.0 s same in
            let place : of.place ≡ s = omega (arith, number, at) in
            own-if s value true same ∙ sym of.cut ∙ sym (ap (cut_if k) (sym (ap (slice_get states) place) ∙ of.here))
        mine false differ None here = own-if s value false differ ∙ sym (ap (cut_if k) here)
        mine false differ (Some state) here =
            own-if s value false differ ∙ other value of (eqb-false value.0 s differ) state here (cut_of state k) refl ∙ sym (ap (cut_if k) here)

pub states-lawful : (ties : Ties) (states : List State) → 1 ≤ length states → length states ≤ 64 → ((s : ℕ) (state : State) → slice_get states s ≡ Some state → IsSoundState state)
    → ((s t : ℕ) (x y : State) → slice_get states s ≡ Some x → slice_get states t ≡ Some y → x.plan.tables ≡ y.plan.tables) → AreApart states → IsLawful (board_of states)
states-lawful ties states some few sound tables apart = record {
  some = some;
  few = few;
  sound = sound;
  tables = tables;
  rising = rising_from 0 states;
  cuts = own_cuts ties states apart;
}
