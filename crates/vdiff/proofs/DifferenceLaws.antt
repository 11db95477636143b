-- The first differences, one behind the other.
use Rattle.std.proofs.Common.{◌≡◌, ◌∙◌, ◌⊎◌, inl, inr, ℕ, zero, suc, ◌+◌, ◌<◌, ◌≤◌, List, [], ◌∷◌, ◌++◌, true, false, refl, sym, ap, subst, Bool, Ordering, append_assoc, append-nil, arith}
use Rattle.std.specs.Prelude.{◌-◌}
use Rattle.std.specs.Ordering.{is_lt, ordering_reverse}
use Rattle.std.specs.declared.cmp.Ordering.TheVariants.{Less, Equal, Greater}
use Rattle.std.proofs.lemmas.List.Concat.{flat_map-append}
use Rattle.filter_rule.specs.PlanTable.{TableValue}
use Rattle.pk_copy.specs.KeyOrder.{key_cmp}
use Rattle.pk_copy.specs.KeyOrderLaws.{key_cmp_total}
use Rattle.pk_copy.specs.KeyValue.{KeyValue}
use Rattle.target_tables.specs.Rising.{IsRising, AreAbove}
use Rattle.printing.specs.Printing.{Written, IsAdded, BreaksOff}
use Rattle.vdiff.specs.Report.{row_eq}
use Rattle.dump.specs.DumpRowsValue.{RowValue, DumpRowsValue}
use Rattle.printing.proofs.PrintLaws.{adds_none, added_more, added_breaks, adding_breaks}
use Rattle.vdiff.proofs.ReportLaws.{all_above, row_eq-Decides}
use Rattle.vdiff.specs.Differences.{Difference, IsLeast, AreFirstDifferences, rows_past}
use Rattle.vdiff.specs.Found.{IsNextDifference}
use Rattle.vdiff.specs.Texts.{difference_text, differences_text}
use Rattle.vdiff.proofs.WalkLaws.{next_of_both, next_of_source, next_of_target, next_through, same_at_first, same_for_longer}

-- ---- rows at greater keys rise

-- one row more
above_more : (key first : KeyValue) (row : KeyValue × RowValue) (rows : DumpRowsValue) (b : Bool) → is_lt (key_cmp key row.0) ≡ b → key_cmp first row.0 ≡ Less → AreAbove key_cmp first (rows_past key rows) → AreAbove key_cmp first (rows_past key (row ∷ rows))
above_more key first row rows true e less others = rw e (less, others)
above_more key first row rows false e less others = rw e others

above_each : (key first : KeyValue) (rows : DumpRowsValue) → AreAbove key_cmp first rows → AreAbove key_cmp first (rows_past key rows)
above_each key first [] above = tt
above_each key first (row ∷ rows) above = above_more key first row rows (is_lt (key_cmp key row.0)) refl above.0 (above_each key first rows above.1)

rising_more : (key : KeyValue) (row : KeyValue × RowValue) (rows : DumpRowsValue) (b : Bool) → is_lt (key_cmp key row.0) ≡ b → AreAbove key_cmp row.0 (rows_past key rows) → IsRising key_cmp (rows_past key rows) → IsRising key_cmp (rows_past key (row ∷ rows))
rising_more key row rows true e above others = rw e (above, others)
rising_more key row rows false e above others = rw e others

pub rising_behind : (key : KeyValue) (rows : DumpRowsValue) → IsRising key_cmp rows → IsRising key_cmp (rows_past key rows)
rising_behind key [] rising = tt
rising_behind key (row ∷ rows) rising = rising_more key row rows (is_lt (key_cmp key row.0)) refl (above_each key row.0 rows rising.0) (rising_behind key rows rising.1)

-- ---- there are first differences

-- two keys tie where they are equal
abbrev pub Tie : Type 0
Tie = (a b : KeyValue) → key_cmp a b ≡ Equal → a ≡ b

-- a difference that is next
record HasNext (source target : DumpRowsValue) : Type 0 where
  pub least : Difference
  pub source_left : DumpRowsValue
  pub target_left : DumpRowsValue
  pub next : IsNextDifference source target least source_left target_left

abbrev SameOrNext : DumpRowsValue → DumpRowsValue → Type 0
SameOrNext source target = (source ≡ target) ⊎ HasNext source target

behind_first : (x y : KeyValue × RowValue) (lefts rights : DumpRowsValue) → IsRising key_cmp (x ∷ lefts) → IsRising key_cmp (y ∷ rights) → x ≡ y → SameOrNext lefts rights → SameOrNext (x ∷ lefts) (y ∷ rights)
behind_first x y lefts rights rising rises same (inl e) = inl (λ i. same i ∷ e i)
behind_first x y lefts rights rising rises same (inr has) = inr (record {
  least = has.least;
  source_left = has.source_left;
  target_left = has.target_left;
  next = next_through (x ∷ lefts) (y ∷ rights) lefts rights has.least has.source_left has.target_left
      (same_for_longer (x ∷ lefts) (y ∷ rights) x y lefts rights (same_at_first (x ∷ lefts) (y ∷ rights) rising rises) same) has.next;
})

at_one_key : (x y : KeyValue × RowValue) (lefts rights : DumpRowsValue) → IsRising key_cmp (x ∷ lefts) → IsRising key_cmp (y ∷ rights) → x.0 ≡ y.0 → SameOrNext lefts rights → (b : Bool) → row_eq x.1 y.1 ≡ b → SameOrNext (x ∷ lefts) (y ∷ rights)
at_one_key x y lefts rights rising rises same others true e =
    let rows : x.1 ≡ y.1 = (row_eq-Decides x.1 y.1).0 e in
    behind_first x y lefts rights rising rises (λ i. (same i, rows i)) others
at_one_key x y lefts rights rising rises same others false e =
    inr (record { least = _; source_left = lefts; target_left = rights; next = next_of_both x.0 y.0 x.1 y.1 lefts rights rising rises same (λ rows. let told : row_eq x.1 y.1 ≡ true = (row_eq-Decides x.1 y.1).1 rows in cc) })

by_keys : (x y : KeyValue × RowValue) (lefts rights : DumpRowsValue) → Tie → IsRising key_cmp (x ∷ lefts) → IsRising key_cmp (y ∷ rights) → SameOrNext lefts rights → (o : Ordering) → key_cmp x.0 y.0 ≡ o → SameOrNext (x ∷ lefts) (y ∷ rights)
by_keys x y lefts rights tie rising rises others Less e =
    inr (record { least = _; source_left = lefts; target_left = y ∷ rights; next = next_of_source x.0 x.1 lefts (y ∷ rights) rising (all_above x.0 y rights rises e) })
by_keys x y lefts rights tie rising rises others Greater e =
    let less : key_cmp y.0 x.0 ≡ Less = key_cmp_total.antisymm y.0 x.0 ∙ ap ordering_reverse e in
    inr (record { least = _; source_left = x ∷ lefts; target_left = rights; next = next_of_target y.0 y.1 (x ∷ lefts) rights rises (all_above y.0 x lefts rising less) })
by_keys x y lefts rights tie rising rises others Equal e = at_one_key x y lefts rights rising rises (tie x.0 y.0 e) others (row_eq x.1 y.1) refl

same_or_next : Tie → (source target : DumpRowsValue) → IsRising key_cmp source → IsRising key_cmp target → SameOrNext source target
same_or_next tie [] [] rising rises = inl refl
same_or_next tie (x ∷ lefts) [] rising rises = inr (record { least = _; source_left = lefts; target_left = []; next = next_of_source x.0 x.1 lefts [] rising tt })
same_or_next tie [] (y ∷ rights) rising rises = inr (record { least = _; source_left = []; target_left = rights; next = next_of_target y.0 y.1 [] rights rises tt })
same_or_next tie (x ∷ lefts) (y ∷ rights) rising rises = by_keys x y lefts rights tie rising rises (same_or_next tie lefts rights rising.1 rises.1) (key_cmp x.0 y.0) refl

some_by : (n : ℕ) (source target : DumpRowsValue) → ((least : Difference) → (found : List Difference) × AreFirstDifferences n (rows_past least.key source) (rows_past least.key target) found) → SameOrNext source target → (found : List Difference) × AreFirstDifferences (suc n) source target found
some_by n source target others (inl same) = ([], same)
some_by n source target others (inr has) = (has.least ∷ (others has.least).0, (has.next.is_least, (others has.least).1))

pub some_first : Tie → (n : ℕ) (source target : DumpRowsValue) → IsRising key_cmp source → IsRising key_cmp target → (found : List Difference) × AreFirstDifferences n source target found
some_first tie zero source target rising rises = ([], tt)
some_first tie (suc n) source target rising rises =
    some_by n source target (λ least. some_first tie n (rows_past least.key source) (rows_past least.key target) (rising_behind least.key source rising) (rising_behind least.key target rises))
    (same_or_next tie source target rising rises)

-- ---- the loop over them

-- so many are found, and those of what is left are the others
pub record AreFoundTo (n i : ℕ) (source target left right : DumpRowsValue) (found : List Difference) : Type 0 where
  pub within : i ≤ n
  pub others : (more : List Difference) → AreFirstDifferences (n - i) left right more → AreFirstDifferences n source target (found ++ more)
  pub left_rises : IsRising key_cmp left
  pub right_rises : IsRising key_cmp right

pub found_none : (n : ℕ) (source target : DumpRowsValue) → IsRising key_cmp source → IsRising key_cmp target → AreFoundTo n 0 source target source target []
found_none n source target rising rises =
    let all : n - 0 ≡ n = omega arith in
    record { within = omega arith; others = λ more first. subst (λ (m : ℕ). AreFirstDifferences m source target more) all first; left_rises = rising; right_rises = rises }

-- one more, and those behind it
one_more : (n i k : ℕ) (source target left right : DumpRowsValue) (found : List Difference) (least : Difference) (more : List Difference) → n - i ≡ suc k → AreFoundTo n i source target left right found → IsLeast left right least
    → AreFirstDifferences k (rows_past least.key left) (rows_past least.key right) more → AreFirstDifferences n source target (found ++ (least ∷ more))
one_more n i k source target left right found least more is so_far first others =
    so_far.others (least ∷ more) (subst (λ (m : ℕ). AreFirstDifferences m left right (least ∷ more)) (sym is) (first, others))

pub found_more : (n i : ℕ) (source target left right : DumpRowsValue) (found : List Difference) (least : Difference) (lefts rights : DumpRowsValue) → i < n → AreFoundTo n i source target left right found → IsNextDifference left right least lefts rights
    → AreFoundTo n (i + 1) source target lefts rights (found ++ least ∷ [])
found_more n i source target left right found least lefts rights lt so_far next =
    rw (next.source_behind, next.target_behind) (record {
      within = omega (arith, lt);
      others = λ more first. subst (AreFirstDifferences n source target) (sym (append_assoc found (least ∷ []) more))
          (one_more n i (n - (i + 1)) source target left right found least more (omega (arith, lt)) so_far next.is_least first);
      left_rises = rising_behind least.key left so_far.left_rises;
      right_rises = rising_behind least.key right so_far.right_rises;
    })

-- there are no others
pub found_all : (n i : ℕ) (source target left right : DumpRowsValue) (found : List Difference) → (n ≤ i) ⊎ ((i < n) × (left ≡ right)) → AreFoundTo n i source target left right found → AreFirstDifferences n source target found
found_all n i source target left right found (inl le) so_far =
    let none : n - i ≡ 0 = omega (arith, le) in
    subst (AreFirstDifferences n source target) (append-nil found) (so_far.others [] (subst (λ (m : ℕ). AreFirstDifferences m left right []) (sym none) tt))
found_all n i source target left right found (inr (lt, same)) so_far =
    let some : n - i ≡ suc (n - (i + 1)) = omega (arith, lt) in
    subst (AreFirstDifferences n source target) (append-nil found) (so_far.others [] (subst (λ (m : ℕ). AreFirstDifferences m left right []) (sym some) same))

-- ---- and over their texts

pub record AreAddedTo (tables : List TableValue) (n i : ℕ) (source target left right : DumpRowsValue) (old : Written) (waited : List ℕ) (now : Written) (waiting : List ℕ) : Type 0 where
  pub found : List Difference
  pub are_found : AreFoundTo n i source target left right found
  pub added : IsAdded old waited now waiting (differences_text tables found)

pub adding_none : (tables : List TableValue) (n : ℕ) (source target : DumpRowsValue) (now : Written) (waits : List ℕ) → IsRising key_cmp source → IsRising key_cmp target → AreAddedTo tables n 0 source target source target now waits now waits
adding_none tables n source target now waits rising rises = record { found = []; are_found = found_none n source target rising rises; added = adds_none now waits }

-- the text of one more
text_more : (tables : List TableValue) (found : List Difference) (least : Difference) (more : List Difference) → differences_text tables (found ++ (least ∷ more)) ≡ differences_text tables found ++ (difference_text tables least ++ differences_text tables more)
text_more tables found least more = flat_map-append (difference_text tables) found (least ∷ more)

one_text : (tables : List TableValue) (found : List Difference) (least : Difference) → differences_text tables (found ++ least ∷ []) ≡ differences_text tables found ++ difference_text tables least
one_text tables found least = text_more tables found least [] ∙ ap (λ (l : List ℕ). differences_text tables found ++ l) (append-nil (difference_text tables least))

module _ (tables : List TableValue) (n i : ℕ) (source target left right : DumpRowsValue) (old : Written) (waited : List ℕ) (now : Written) (waiting : List ℕ) (so_far : AreAddedTo tables n i source target left right old waited now waiting) where
  pub adding_more : (least : Difference) (lefts rights : DumpRowsValue) (new : Written) (waits : List ℕ) → i < n → IsNextDifference left right least lefts rights → IsAdded now waiting new waits (difference_text tables least)
      → AreAddedTo tables n (i + 1) source target lefts rights old waited new waits
  adding_more least lefts rights new waits lt next added = record {
    found = so_far.found ++ least ∷ [];
    are_found = found_more n i source target left right so_far.found least lefts rights lt so_far.are_found next;
    added = subst (IsAdded old waited new waits) (sym (one_text tables so_far.found least)) (added_more old waited now waiting new waits _ _ so_far.added added);
  }

  pub adding_breaks_at : (least : Difference) (lefts rights : DumpRowsValue) (new : Written) → Tie → i < n → IsNextDifference left right least lefts rights → BreaksOff now new (waiting ++ difference_text tables least)
      → (found : List Difference) × AreFirstDifferences n source target found × BreaksOff old new (waited ++ differences_text tables found)
  adding_breaks_at least lefts rights new tie lt next broken =
      let more = some_first tie (n - (i + 1)) (rows_past least.key left) (rows_past least.key right) (rising_behind least.key left so_far.are_found.left_rises) (rising_behind least.key right so_far.are_found.right_rises) in (
        so_far.found ++ (least ∷ more.0),
        one_more n i (n - (i + 1)) source target left right so_far.found least more.0 (omega (arith, lt)) so_far.are_found next.is_least more.1,
        subst (λ (l : List ℕ). BreaksOff old new (waited ++ l)) (sym (text_more tables so_far.found least more.0))
            (added_breaks old waited now waiting new (differences_text tables so_far.found) (difference_text tables least ++ differences_text tables more.0) so_far.added (adding_breaks now new waiting (difference_text tables least) (differences_text tables more.0) broken)),
      )
