-- The rows of a stream, by the parts of its tables.
use Rattle.std.proofs.Common.{◌≡◌, ◌≢◌, ◌==◌, ℕ, zero, suc, ◌+◌, ◌<◌, ◌≤◌, inl, inr, Bool, true, false, cond, List, [], ◌∷◌, ◌++◌, length, map, drop, Some, slice_get, append_assoc, append-nil, refl, sym, ap, subst, ◌∙◌, le_refl, arith}
use Rattle.std.proofs.lemmas.Bool.{eqb-true, ne_eqb, cases_lt}
use Rattle.std.proofs.lemmas.List.{drop_all, map-append}
use Rattle.std.proofs.lemmas.Option.{same_Some, none-some}
use borrow.Author.Tests.{eq-eqb}
use Rattle.std.specs.declared.cmp.Ordering.{Ordering}
use Rattle.std.specs.declared.cmp.Ordering.TheVariants.{Less, Greater}
use Rattle.std.specs.Cmp.{nat_cmp_is}
use Rattle.std.specs.List.{AllByRecursion, filter}
use Rattle.std.specs.Ordering.{ordering_then, ordering_index}
use Rattle.std.specs.Result.{result_ok}
use Rattle.list_laws.proofs.Places.{place_of}
use Rattle.filter_rule.specs.PlanValue.{PlanValue}
use Rattle.pk_copy.specs.KeyOfKept.{key_of_kept}
use Rattle.pk_copy.specs.KeyOrder.{key_cmp, parts_cmp}
use Rattle.pk_copy.specs.KeyValue.{KeyValue}
use Rattle.source_feed.specs.History.{RowValue}
use Rattle.source_feed.specs.Image.{ImageRows}
use Rattle.target_tables.specs.Rising.{IsRising, AreBelow}
use Rattle.checkpoint_core.proofs.BehindLaws.{rising_pushed}
use Rattle.vevent.specs.CheckpointPart.{TablePartValue}
use Rattle.checkpoint_laws.specs.Written.{saved_rows_of_table}
use Rattle.checkpoint_laws.specs.Said.{IsKeyed}
use Rattle.checkpoint_core.specs.declared.fault.ReadFault.{ReadFault}
use Rattle.checkpoint_core.specs.Fault.{IsNothing}
use Rattle.checkpoint_core.specs.Private.Reading.{IsRowOf, IsNextRow, AreRows, of_table, rows_in, rows_from}

abbrev Row : Type 0
Row = KeyValue × RowValue

abbrev Given : Type 0
Given = ℕ × RowValue

-- ---- one row

-- a row of a table has one key
pub same_row_key : (plan : PlanValue) (t : ℕ) (row : RowValue) (one other : KeyValue) → IsRowOf plan t row one → IsRowOf plan t row other → one ≡ other
same_row_key plan t row one other p q =
    same_Some one other (ap result_ok (sym p.keyed.key ∙ ap (λ (n : ℕ). key_of_kept plan n row) (p.table ∙ sym q.table) ∙ q.keyed.key))

-- a row with its key behind others
pub next_rows : (plan : PlanValue) (t : ℕ) (row : RowValue) (old new : ImageRows) → IsNextRow plan t row old new → AreRows plan (map of_table old) old → AreRows plan (map of_table new) new
next_rows plan t row old new next are = record {
  rising = subst (IsRising key_cmp) (sym next.put) (rising_pushed old (next.key, row) are.rising next.below);
  keyed = subst (AllByRecursion (IsKeyed plan)) (sym next.put) (joined old are.keyed);
  are = refl;
}
  where
    joined : (rows : ImageRows) → AllByRecursion (IsKeyed plan) rows → AllByRecursion (IsKeyed plan) (rows ++ (next.key, row) ∷ [])
    joined [] h = (next.of.keyed, tt)
    joined (x ∷ rows) h = (h.0, joined rows h.1)

pub next_given : (plan : PlanValue) (t : ℕ) (row : RowValue) (old new : ImageRows) → IsNextRow plan t row old new → map of_table new ≡ map of_table old ++ (t, row) ∷ []
next_given plan t row old new next =
    ap (map of_table) next.put
    ∙ map-append of_table old ((next.key, row) ∷ [])
    ∙ ap (λ (n : ℕ). map of_table old ++ (n, row) ∷ []) next.of.table

-- ---- rows that begin as others

abbrev first_given : List Given → Given → Given
first_given [] x = x
first_given (y ∷ ys) x = y

abbrev later_given : List Given → List Given
later_given [] = []
later_given (y ∷ ys) = ys

no_given : (x : Given) (xs : List Given) → [] ≡ x ∷ xs → ⊥
no_given x xs e = none-some x (ap (λ (ys : List Given). slice_get ys 0) e)

-- a row that stands behind rows, with its key
record IsBehind (plan : PlanValue) (old all : ImageRows) (t : ℕ) (row : RowValue) : Type 0 where
  key : KeyValue
  of : IsRowOf plan t row key
  below : AreBelow key_cmp key old
  -- what is greater than all is smaller than none
  after : (k : KeyValue) → AllByRecursion (λ (later : Row). key_cmp k later.0 ≡ Less) all → key_cmp k key ≡ Less

module _ (plan : PlanValue) (t : ℕ) (row : RowValue) (later : List Given) where
  behind : (old all : ImageRows) → AllByRecursion (IsKeyed plan) old → IsRising key_cmp all → AllByRecursion (IsKeyed plan) all → map of_table all ≡ map of_table old ++ (t, row) ∷ later
      → IsBehind plan old all t row
  behind [] [] k rising keyed e = absurd (no_given (t, row) later e)
  behind [] (x ∷ all) k rising keyed e =
      let first : of_table x ≡ (t, row) = ap (λ (xs : List Given). first_given xs (t, row)) e in
      let table : x.0.table ≡ t = ap (λ (g : Given). g.0) first in
      let value : x.1 ≡ row = ap (λ (g : Given). g.1) first in
      record {
        key = x.0;
        of = record { keyed = subst (λ (r : RowValue). IsKeyed plan (x.0, r)) value keyed.0; table = table };
        below = tt;
        after = λ k all. all.0;
      }
  behind (o ∷ old) [] k rising keyed e = absurd (no_given (of_table o) (map of_table old ++ (t, row) ∷ later) e)
  behind (o ∷ old) (x ∷ all) k rising keyed e =
      let first : of_table x ≡ of_table o = ap (λ (xs : List Given). first_given xs (of_table o)) e in
      let table : x.0.table ≡ o.0.table = ap (λ (g : Given). g.0) first in
      let value : x.1 ≡ o.1 = ap (λ (g : Given). g.1) first in
      let key : x.0 ≡ o.0 = same_Some x.0 o.0 (ap result_ok (sym keyed.0.key ∙ ap (λ (n : ℕ). key_of_kept plan n x.1) table ∙ ap (key_of_kept plan o.0.table) value ∙ k.0.key)) in
      let rest : IsBehind plan old all t row = behind old all k.1 rising.1 keyed.1 (ap later_given e) in
      record {
        key = rest.key;
        of = rest.of;
        below = (subst (λ (k : KeyValue). key_cmp k rest.key ≡ Less) key (rest.after x.0 rising.0), rest.below);
        after = λ k all. rest.after k all.1;
      }

-- rows that are given again begin with the same ones, so the next row has a key behind theirs
pub next_there : (plan : PlanValue) (t : ℕ) (row : RowValue) (later : List Given) (old all : ImageRows) → AreRows plan (map of_table old) old → AreRows plan (map of_table old ++ (t, row) ∷ later) all
    → ((key : KeyValue) → IsRowOf plan t row key × AreBelow key_cmp key old → ⊥) → ⊥
next_there plan t row later old all are h none =
    let at : IsBehind plan old all t row = behind plan t row later old all are.keyed h.rising h.keyed h.are in
    none at.key (at.of, at.below)

-- ---- the rows of tables

abbrev values : List Given → List RowValue
values xs = map (λ (g : Given). g.1) xs

abbrev of : ℕ → List Given → List Given
of t xs = filter (λ (g : Given). g.0 == t) xs

of-append : (t : ℕ) (xs ys : List Given) → of t (xs ++ ys) ≡ of t xs ++ of t ys
of-append t [] ys = refl
of-append t (x ∷ xs) ys = by (of-append t xs ys) (x.0 == t)
  where
    by : of t (xs ++ ys) ≡ of t xs ++ of t ys → (b : Bool) → cond b (x ∷ of t (xs ++ ys)) (of t (xs ++ ys)) ≡ cond b (x ∷ of t xs) (of t xs) ++ of t ys
    by rest true = ap (λ (zs : List Given). x ∷ zs) rest
    by rest false = rest

of-in : (t : ℕ) (rows : List RowValue) → of t (rows_in t rows) ≡ rows_in t rows
of-in t [] = refl
of-in t (row ∷ rows) =
    ap (λ b. cond b ((t, row) ∷ of t (rows_in t rows)) (of t (rows_in t rows))) (eq-eqb t t refl)
    ∙ ap (λ (xs : List Given). (t, row) ∷ xs) (of-in t rows)

of-others : (t u : ℕ) (rows : List RowValue) → u ≢ t → of t (rows_in u rows) ≡ []
of-others t u [] other = refl
of-others t u (row ∷ rows) other =
    ap (λ b. cond b ((u, row) ∷ of t (rows_in u rows)) (of t (rows_in u rows))) (ne_eqb u t other)
    ∙ of-others t u rows other

of-lower : (t s : ℕ) (parts : List TablePartValue) → t < s → of t (rows_from s parts) ≡ []
of-lower t s [] less = refl
of-lower t s (part ∷ parts) less =
    of-append t (rows_in s part.answer.rows) (rows_from (s + 1) parts)
    ∙ ap (λ (xs : List Given). xs ++ of t (rows_from (s + 1) parts)) (of-others t s part.answer.rows (λ e. omega (arith, e, less)))
    ∙ of-lower t (s + 1) parts (omega (arith, less))

values-in : (t : ℕ) (rows : List RowValue) → values (rows_in t rows) ≡ rows
values-in t [] = refl
values-in t (row ∷ rows) = ap (λ (xs : List RowValue). row ∷ xs) (values-in t rows)

-- of the rows of all tables those of one are its part's
of-part : (s i : ℕ) (parts : List TablePartValue) (part : TablePartValue) → slice_get parts i ≡ Some part → values (of (s + i) (rows_from s parts)) ≡ part.answer.rows
of-part s i [] part there = absurd (none-some part there)
of-part s zero (first ∷ parts) part there =
    let is : first ≡ part = same_Some first part there in
    let at : s + 0 ≡ s = omega arith in
    ap (λ (n : ℕ). values (of n (rows_from s (first ∷ parts)))) at
    ∙ ap values (of-append s (rows_in s first.answer.rows) (rows_from (s + 1) parts))
    ∙ ap (λ (xs : List Given). values (of s (rows_in s first.answer.rows) ++ xs)) (of-lower s (s + 1) parts (omega arith))
    ∙ ap values (append-nil (of s (rows_in s first.answer.rows)))
    ∙ ap values (of-in s first.answer.rows)
    ∙ values-in s first.answer.rows
    ∙ ap (λ (p : TablePartValue). p.answer.rows) is
of-part s (suc i) (first ∷ parts) part there =
    let at : s + suc i ≡ s + 1 + i = omega arith in
    ap (λ (n : ℕ). values (of n (rows_from s (first ∷ parts)))) at
    ∙ ap values (of-append (s + 1 + i) (rows_in s first.answer.rows) (rows_from (s + 1) parts))
    ∙ ap (λ (xs : List Given). values (xs ++ of (s + 1 + i) (rows_from (s + 1) parts))) (of-others (s + 1 + i) s first.answer.rows (λ e. omega (arith, e)))
    ∙ of-part (s + 1) i parts part there

of-part_at : (t : ℕ) (parts : List TablePartValue) (part : TablePartValue) → slice_get parts t ≡ Some part → values (of t (rows_from 0 parts)) ≡ part.answer.rows
of-part_at t parts part there =
    let at : t ≡ 0 + t = omega arith in
    ap (λ (n : ℕ). values (of n (rows_from 0 parts))) at ∙ of-part 0 t parts part there

-- of rows those of a table
of-rows : (t : ℕ) (rows : ImageRows) → of t (map of_table rows) ≡ map of_table (saved_rows_of_table t rows)
of-rows t [] = refl
of-rows t (row ∷ rows) = by (of-rows t rows) (row.0.table == t)
  where
    by : of t (map of_table rows) ≡ map of_table (saved_rows_of_table t rows)
        → (b : Bool) → cond b (of_table row ∷ of t (map of_table rows)) (of t (map of_table rows)) ≡ map of_table (cond b (row ∷ saved_rows_of_table t rows) (saved_rows_of_table t rows))
    by rest true = ap (λ (xs : List Given). of_table row ∷ xs) rest
    by rest false = rest

values-rows : (rows : ImageRows) → values (map of_table rows) ≡ map (λ (row : Row). row.1) rows
values-rows [] = refl
values-rows (row ∷ rows) = ap (λ (xs : List RowValue). row.1 ∷ xs) (values-rows rows)

-- the rows of all tables, read, are of each table those of its part
pub rows_said : (plan : PlanValue) (parts : List TablePartValue) (rows : ImageRows) → AreRows plan (rows_from 0 parts) rows
    → (t : ℕ) (part : TablePartValue) → slice_get parts t ≡ Some part → part.answer.rows ≡ map (λ (row : Row). row.1) (saved_rows_of_table t rows)
rows_said plan parts rows are t part there =
    sym (of-part_at t parts part there)
    ∙ ap (λ (xs : List Given). values (of t xs)) (sym are.are)
    ∙ ap values (of-rows t rows)
    ∙ values-rows (saved_rows_of_table t rows)

-- ---- rows in the order of tables are said by those of each table

abbrev AtLeast : ℕ → List Given → Type 0
AtLeast t xs = AllByRecursion (λ (g : Given). t ≤ g.0) xs

-- the tables don't fall
abbrev InOrder : List Given → Type 0
InOrder [] = Unit {0}
InOrder (x ∷ xs) = AtLeast x.0 xs × InOrder xs

none_under : (t u : ℕ) (xs : List Given) → t < u → AtLeast u xs → of t xs ≡ []
none_under t u [] less h = refl
none_under t u (x ∷ xs) less h =
    let most : u ≤ x.0 = h.0 in
    ap (λ b. cond b (x ∷ of t xs) (of t xs)) (ne_eqb x.0 t (λ e. omega (arith, e, less, most))) ∙ none_under t u xs less h.1

its_own : (x : Given) (xs : List Given) → of x.0 (x ∷ xs) ≡ x ∷ of x.0 xs
its_own x xs = ap (λ b. cond b (x ∷ of x.0 xs) (of x.0 xs)) (eq-eqb x.0 x.0 refl)

not_in_front : {P : Type 0} (x y : Given) (xs ys : List Given) → x.0 < y.0 → AtLeast y.0 ys → of x.0 (x ∷ xs) ≡ of x.0 (y ∷ ys) → P
not_in_front x y xs ys less h e =
    absurd (no_given x (of x.0 xs) (sym (none_under x.0 y.0 (y ∷ ys) less (le_refl y.0, h)) ∙ sym e ∙ its_own x xs))

same_given : (xs ys : List Given) → InOrder xs → InOrder ys → ((t : ℕ) → of t xs ≡ of t ys) → xs ≡ ys
same_given [] [] p q h = refl
same_given [] (y ∷ ys) p q h = absurd (no_given y (of y.0 ys) (h y.0 ∙ its_own y ys))
same_given (x ∷ xs) [] p q h = absurd (no_given x (of x.0 xs) (sym (h x.0) ∙ its_own x xs))
same_given (x ∷ xs) (y ∷ ys) p q h = elim (cases_lt x.0 y.0) [
  | inl less ↦ not_in_front x y xs ys less q.0 (h x.0)
  | inr most ↦ elim (cases_lt y.0 x.0) [
    | inl less ↦ not_in_front y x ys xs less p.0 (sym (h y.0))
    | inr least ↦ (
        let table : x.0 ≡ y.0 = omega (arith, most, least) in
        let fronts : x ∷ of x.0 xs ≡ y ∷ of y.0 ys = sym (its_own x xs) ∙ h x.0 ∙ ap (λ (t : ℕ). of t (y ∷ ys)) table ∙ its_own y ys in
        let first : x ≡ y = ap (λ (zs : List Given). first_given zs x) fronts in
        let rest : xs ≡ ys = same_given xs ys p.1 q.1 (λ t. without t (x.0 == t) refl table (h t) first) in
        λ i. first i ∷ rest i)
  ]
]
  where
    without : (t : ℕ) (b : Bool) → (x.0 == t) ≡ b → x.0 ≡ y.0 → of t (x ∷ xs) ≡ of t (y ∷ ys) → x ≡ y → of t xs ≡ of t ys
    without t true e table h first =
        ap later_given (sym (ap (λ b. cond b (x ∷ of t xs) (of t xs)) e) ∙ h ∙ ap (λ b. cond b (y ∷ of t ys) (of t ys)) (sym (ap (λ (n : ℕ). n == t) table) ∙ e))
    without t false e table h first =
        sym (ap (λ b. cond b (x ∷ of t xs) (of t xs)) e) ∙ h ∙ ap (λ b. cond b (y ∷ of t ys) (of t ys)) (sym (ap (λ (n : ℕ). n == t) table) ∙ e)

at_least_in : (t u : ℕ) (rows : List RowValue) → t ≤ u → AtLeast t (rows_in u rows)
at_least_in t u [] le = tt
at_least_in t u (row ∷ rows) le = (le, at_least_in t u rows le)

at_least_both : (t : ℕ) (xs ys : List Given) → AtLeast t xs → AtLeast t ys → AtLeast t (xs ++ ys)
at_least_both t [] ys p q = q
at_least_both t (x ∷ xs) ys p q = (p.0, at_least_both t xs ys p.1 q)

at_least_from : (t s : ℕ) (parts : List TablePartValue) → t ≤ s → AtLeast t (rows_from s parts)
at_least_from t s [] le = tt
at_least_from t s (part ∷ parts) le = at_least_both t (rows_in s part.answer.rows) (rows_from (s + 1) parts) (at_least_in t s part.answer.rows le) (at_least_from t (s + 1) parts (omega (arith, le)))

in_order_behind : (s : ℕ) (rows : List RowValue) (ys : List Given) → AtLeast s ys → InOrder ys → InOrder (rows_in s rows ++ ys)
in_order_behind s [] ys h k = k
in_order_behind s (row ∷ rows) ys h k = (at_least_both s (rows_in s rows) ys (at_least_in s s rows (le_refl s)) h, in_order_behind s rows ys h k)

in_order_from : (s : ℕ) (parts : List TablePartValue) → InOrder (rows_from s parts)
in_order_from s [] = tt
in_order_from s (part ∷ parts) = in_order_behind s part.answer.rows (rows_from (s + 1) parts) (at_least_from s (s + 1) parts (omega arith)) (in_order_from (s + 1) parts)

not_less : (a b : KeyValue) → b.table < a.table → key_cmp a b ≡ Less → ⊥
not_less a b more less =
    let greater : key_cmp a b ≡ Greater = ap (λ (o : Ordering). ordering_then o (parts_cmp a.parts b.parts)) (sym (nat_cmp_is a.table b.table Greater more)) in
    let clash : 0 ≡ 2 = ap ordering_index (sym less ∙ greater) in
    omega (arith, clash)

-- a lesser key is of a table that is no later
table_most : (a b : KeyValue) → key_cmp a b ≡ Less → a.table ≤ b.table
table_most a b less = elim (cases_lt b.table a.table) [
  | inl more ↦ absurd (not_less a b more less)
  | inr most ↦ most
]

in_order_rows : (rows : ImageRows) → IsRising key_cmp rows → InOrder (map of_table rows)
in_order_rows [] h = tt
in_order_rows (row ∷ rows) h = (above rows h.0, in_order_rows rows h.1)
  where
    above : (others : ImageRows) → AllByRecursion (λ (later : Row). key_cmp row.0 later.0 ≡ Less) others → AtLeast row.0.table (map of_table others)
    above [] h = tt
    above (other ∷ others) h = (table_most row.0 other.0 h.0, above others h.1)

none_from : (s t : ℕ) (parts : List TablePartValue) → s + length parts ≤ t → of t (rows_from s parts) ≡ []
none_from s t [] most = refl
none_from s t (part ∷ parts) most =
    let more : s + suc (length parts) ≤ t = most in
    of-append t (rows_in s part.answer.rows) (rows_from (s + 1) parts)
    ∙ ap (λ (xs : List Given). xs ++ of t (rows_from (s + 1) parts)) (of-others t s part.answer.rows (λ e. omega (arith, e, more)))
    ∙ none_from (s + 1) t parts (omega (arith, more))

none_of_rows : (n t : ℕ) (rows : ImageRows) → n ≤ t → AllByRecursion (λ (row : Row). row.0.table < n) rows → of t (map of_table rows) ≡ []
none_of_rows n t [] most h = refl
none_of_rows n t (row ∷ rows) most h =
    let inside : row.0.table < n = h.0 in
    ap (λ b. cond b (of_table row ∷ of t (map of_table rows)) (of t (map of_table rows))) (ne_eqb row.0.table t (λ e. omega (arith, e, inside, most))) ∙ none_of_rows n t rows most h.1

-- values of rows of one table say them
all-of : (t : ℕ) (xs : List Given) → AllByRecursion (λ (g : Given). g.0 ≡ t) (of t xs)
all-of t [] = tt
all-of t (x ∷ xs) = by (all-of t xs) (x.0 == t) refl
  where
    by : AllByRecursion (λ (g : Given). g.0 ≡ t) (of t xs) → (b : Bool) → (x.0 == t) ≡ b → AllByRecursion (λ (g : Given). g.0 ≡ t) (cond b (x ∷ of t xs) (of t xs))
    by rest true e = (eqb-true x.0 t e, rest)
    by rest false e = rest

same_values : (t : ℕ) (xs ys : List Given) → AllByRecursion (λ (g : Given). g.0 ≡ t) xs → AllByRecursion (λ (g : Given). g.0 ≡ t) ys → values xs ≡ values ys → xs ≡ ys
same_values t [] [] p q e = refl
same_values t [] (y ∷ ys) p q e = absurd (none-some y.1 (ap (λ (rows : List RowValue). slice_get rows 0) e))
same_values t (x ∷ xs) [] p q e = absurd (none-some x.1 (ap (λ (rows : List RowValue). slice_get rows 0) (sym e)))
same_values t (x ∷ xs) (y ∷ ys) p q e =
    let table : x.0 ≡ y.0 = p.0 ∙ sym q.0 in
    let value : x.1 ≡ y.1 = same_Some x.1 y.1 (ap (λ (rows : List RowValue). slice_get rows 0) e) in
    let rest : xs ≡ ys = same_values t xs ys p.1 q.1 (ap later_values e) in
    λ i. (table i, value i) ∷ rest i
  where
    later_values : List RowValue → List RowValue
    later_values [] = []
    later_values (row ∷ rows) = rows

-- the rows of parts are of no table behind them
abbrev Below : ℕ → List Given → Type 0
Below n xs = AllByRecursion (λ (g : Given). g.0 < n) xs

below_both : (n : ℕ) (xs ys : List Given) → Below n xs → Below n ys → Below n (xs ++ ys)
below_both n [] ys p q = q
below_both n (x ∷ xs) ys p q = (p.0, below_both n xs ys p.1 q)

below_in : (n t : ℕ) (rows : List RowValue) → t < n → Below n (rows_in t rows)
below_in n t [] less = tt
below_in n t (row ∷ rows) less = (less, below_in n t rows less)

below_from : (n s : ℕ) (parts : List TablePartValue) → s + length parts ≤ n → Below n (rows_from s parts)
below_from n s [] most = tt
below_from n s (part ∷ parts) most =
    let more : s + suc (length parts) ≤ n = most in
    below_both n (rows_in s part.answer.rows) (rows_from (s + 1) parts) (below_in n s part.answer.rows (omega (arith, more))) (below_from n (s + 1) parts (omega (arith, more)))

pub rows_bare : (plan : PlanValue) (parts : List TablePartValue) (rows : ImageRows) → AreRows plan (rows_from 0 parts) rows → AllByRecursion (λ (row : Row). row.0.table < length parts) rows
rows_bare plan parts rows are = by rows (subst (Below (length parts)) (sym are.are) (below_from (length parts) 0 parts (omega arith)))
  where
    by : (xs : ImageRows) → Below (length parts) (map of_table xs) → AllByRecursion (λ (row : Row). row.0.table < length parts) xs
    by [] h = tt
    by (x ∷ xs) h = (h.0, by xs h.1)

-- rows that are of each table those of its part are those of all tables, in order
pub rows_only : (plan : PlanValue) (parts : List TablePartValue) (rows : ImageRows) → AllByRecursion (λ (row : Row). row.0.table < length parts) rows → IsRising key_cmp rows → AllByRecursion (IsKeyed plan) rows
    → ((t : ℕ) (part : TablePartValue) → slice_get parts t ≡ Some part → part.answer.rows ≡ map (λ (row : Row). row.1) (saved_rows_of_table t rows)) → AreRows plan (rows_from 0 parts) rows
rows_only plan parts rows bare rising keyed says = record {
  rising = rising;
  keyed = keyed;
  are = same_given (map of_table rows) (rows_from 0 parts) (in_order_rows rows rising) (in_order_from 0 parts) each;
}
  where
    each : (t : ℕ) → of t (map of_table rows) ≡ of t (rows_from 0 parts)
    each t = elim (cases_lt t (length parts)) [
      | inl less ↦ (
          let there : (part : TablePartValue) × (slice_get parts t ≡ Some part) = place_of parts t less in
          same_values t (of t (map of_table rows)) (of t (rows_from 0 parts)) (all-of t (map of_table rows)) (all-of t (rows_from 0 parts))
          (ap values (of-rows t rows) ∙ values-rows (saved_rows_of_table t rows) ∙ sym (says t there.0 there.1) ∙ sym (of-part_at t parts there.0 there.1)))
      | inr most ↦ none_of_rows (length parts) t rows most bare ∙ sym (none_from 0 t parts (omega (arith, most)))
    ]

-- ---- rows that are read one after another

-- a row more of a table
pub rows_turn : (plan : PlanValue) (t : ℕ) (row : RowValue) (rest left : List RowValue) (old new : ImageRows) (whole : List Given) → left ≡ row ∷ rest → IsNextRow plan t row old new
    → AreRows plan (map of_table old) old × (map of_table old ++ rows_in t left ≡ whole) → AreRows plan (map of_table new) new × (map of_table new ++ rows_in t rest ≡ whole)
rows_turn plan t row rest left old new whole is next (are, sum) = (
  next_rows plan t row old new next are,
  ap (λ (xs : List Given). xs ++ rows_in t rest) (next_given plan t row old new next)
      ∙ append_assoc (map of_table old) ((t, row) ∷ []) (rows_in t rest)
      ∙ ap (λ (rs : List RowValue). map of_table old ++ rows_in t rs) (sym is)
      ∙ sum,
)

-- a row that can't stand behind the others
pub rows_stop : (plan : PlanValue) (t : ℕ) (row : RowValue) (rest left : List RowValue) (old : ImageRows) (whole later : List Given) → left ≡ row ∷ rest
    → AreRows plan (map of_table old) old × (map of_table old ++ rows_in t left ≡ whole) → ((key : KeyValue) → IsRowOf plan t row key × AreBelow key_cmp key old → ⊥) → (all : ImageRows) → AreRows plan (whole ++ later) all → ⊥
rows_stop plan t row rest left old whole later is (are, sum) none all h =
    let parts : whole ++ later ≡ map of_table old ++ (t, row) ∷ (rows_in t rest ++ later) =
    ap (λ (xs : List Given). xs ++ later) (sym sum)
    ∙ ap (λ (rs : List RowValue). (map of_table old ++ rows_in t rs) ++ later) is
    ∙ append_assoc (map of_table old) (rows_in t (row ∷ rest)) later in
    next_there plan t row (rows_in t rest ++ later) old all are (subst (λ (given : List Given). AreRows plan given all) parts h) none

-- a table more
pub table_turn : (plan : PlanValue) (tables : List TablePartValue) (t : ℕ) (part : TablePartValue) (old new : ImageRows) (whole : List Given) → drop t tables ≡ part ∷ drop (t + 1) tables
    → AreRows plan (map of_table old ++ rows_in t part.answer.rows) new → map of_table old ++ rows_from t (drop t tables) ≡ whole
    → AreRows plan (map of_table new) new × (map of_table new ++ rows_from (t + 1) (drop (t + 1) tables) ≡ whole)
table_turn plan tables t part old new whole at are sum = (
  record { rising = are.rising; keyed = are.keyed; are = refl },
  ap (λ (xs : List Given). xs ++ rows_from (t + 1) (drop (t + 1) tables)) are.are
      ∙ append_assoc (map of_table old) (rows_in t part.answer.rows) (rows_from (t + 1) (drop (t + 1) tables))
      ∙ ap (λ (parts : List TablePartValue). map of_table old ++ rows_from t parts) (sym at)
      ∙ sum,
)

-- a table's rows that can't stand behind the others
pub table_stop : (plan : PlanValue) (tables : List TablePartValue) (t : ℕ) (part : TablePartValue) (old : ImageRows) (whole : List Given) (fault : ReadFault) → drop t tables ≡ part ∷ drop (t + 1) tables
    → map of_table old ++ rows_from t (drop t tables) ≡ whole → ((later : List Given) → IsNothing (AreRows plan ((map of_table old ++ rows_in t part.answer.rows) ++ later)) fault) → IsNothing (AreRows plan whole) fault
table_stop plan tables t part old whole fault at sum none =
    let later : List Given = rows_from (t + 1) (drop (t + 1) tables) in
    subst (λ (given : List Given). IsNothing (AreRows plan given) fault)
    (append_assoc (map of_table old) (rows_in t part.answer.rows) later ∙ ap (λ (parts : List TablePartValue). map of_table old ++ rows_from t parts) (sym at) ∙ sum)
    (none later)

-- all rows of all tables
pub table_end : (plan : PlanValue) (tables : List TablePartValue) (t : ℕ) (rows : ImageRows) (whole : List Given) → length tables ≤ t
    → AreRows plan (map of_table rows) rows × (map of_table rows ++ rows_from t (drop t tables) ≡ whole) → AreRows plan whole rows
table_end plan tables t rows whole most (are, sum) = record {
  rising = are.rising;
  keyed = are.keyed;
  are = sym (append-nil (map of_table rows)) ∙ ap (λ (parts : List TablePartValue). map of_table rows ++ rows_from t parts) (sym (drop_all t tables most)) ∙ sum;
}
