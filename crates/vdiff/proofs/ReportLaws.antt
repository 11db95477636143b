-- Two lists of rows by rising key, walked together.
use Rattle.std.proofs.Common.{◌≡◌, ℕ, ◌+◌, ◌⊎◌, inl, inr, List, [], ◌∷◌, length, cond, true, false, not, refl, sym, ap, ◌∙◌, Ordering, Option, Some, None, subst, arith}
use Rattle.std.specs.Prelude.{Bool, slice_get}
use Rattle.std.specs.Bool.{Decides}
use Rattle.std.specs.Ordering.{is_eq, ordering_reverse, eq_by_cmp}
use Rattle.std.specs.declared.cmp.Ordering.TheVariants.{Less, Equal, Greater}
use Rattle.std.proofs.lemmas.Bool.{false_from_ne_true}
use Rattle.std.proofs.lemmas.Cmp.{tied_itself, tied_back}
use Rattle.std.proofs.lemmas.List.Sums.{sum_by-cons}
use Rattle.std.proofs.lemmas.Slice.Eq.{bytes_eq-Decides, slice_eq-Decides}
use Rattle.list_laws.proofs.Fronts.{each}
use Rattle.pk_copy.specs.KeyOrder.{key_cmp}
use Rattle.pk_copy.specs.KeyOrderLaws.{key_cmp_total}
use Rattle.pk_copy.specs.KeyValue.{KeyValue}
use Rattle.target_tables.specs.Rising.{IsRising, AreAbove}
use Rattle.target_tables.proofs.Values.{none_above}
use Rattle.vdiff.specs.Report.{column_eq, row_eq, is_matched, is_mismatched, is_missing, count_beside, report_of, IsFirstDifference}
use Rattle.vdiff.specs.declared.report.Report.{Report}
use Rattle.dump.specs.DumpRowsValue.{RowValue, DumpRowsValue, row_with_key}

pub column_eq-Decides : (a b : Option (List ℕ)) → Decides (column_eq a b) (a ≡ b)
column_eq-Decides None None = (λ e. refl, λ e. refl)
column_eq-Decides None (Some b) = (λ e. cc, λ e. cc)
column_eq-Decides (Some a) None = (λ e. cc, λ e. cc)
column_eq-Decides (Some a) (Some b) =
    let d = bytes_eq-Decides a b in
    (λ e. ap Some (d.0 e), λ e. let same : a ≡ b = cc in d.1 same)

-- the test of rows decides whether they are equal
pub row_eq-Decides : (a b : RowValue) → Decides (row_eq a b) (a ≡ b)
row_eq-Decides a b = slice_eq-Decides column_eq-Decides a b (row_eq a b) refl

-- ---- a key that is less than all

-- there is no row at it
pub none_at : (key : KeyValue) (rows : DumpRowsValue) → AreAbove key_cmp key rows → row_with_key rows key ≡ None
none_at key rows above = none_above key_cmp_total key key rows (tied_itself key_cmp_total key) above

-- what stands at a greater key is found behind it
behind : (key : KeyValue) (row : RowValue) (others : DumpRowsValue) (later : KeyValue) → key_cmp key later ≡ Less → row_with_key ((key, row) ∷ others) later ≡ row_with_key others later
behind key row others later less =
    let greater : key_cmp later key ≡ Greater = key_cmp_total.antisymm later key ∙ ap ordering_reverse less in
    ap (λ o. cond (is_eq o) (Some row) (row_with_key others later)) greater

-- what the first row counts, and the others
counts_first : (test : Option RowValue → RowValue → Bool) (others : DumpRowsValue) (key : KeyValue) (row : RowValue) (rows : DumpRowsValue) (there : Option RowValue) (n : ℕ) → row_with_key others key ≡ there → cond (test there row) 1 0 ≡ n
    → count_beside test others ((key, row) ∷ rows) ≡ n + count_beside test others rows
counts_first test others key row rows there n is one =
    sum_by-cons (λ (e : KeyValue × RowValue). cond (test (row_with_key others e.0) e.1) 1 0) (key, row) rows
    ∙ ap (λ (m : ℕ). m + count_beside test others rows) (ap (λ o. cond (test o row) 1 0) is ∙ one)

-- rows at greater keys are counted as without it
pub count_behind : (test : Option RowValue → RowValue → Bool) (key : KeyValue) (row : RowValue) (others rows : DumpRowsValue) → AreAbove key_cmp key rows → count_beside test ((key, row) ∷ others) rows ≡ count_beside test others rows
count_behind test key row others [] above = refl
count_behind test key row others (e ∷ rows) above =
    counts_first test ((key, row) ∷ others) e.0 e.1 rows (row_with_key others e.0) _ (behind key row others e.0 above.0) refl
    ∙ ap (λ (m : ℕ). cond (test (row_with_key others e.0) e.1) 1 0 + m) (count_behind test key row others rows above.1)
    ∙ sym (counts_first test others e.0 e.1 rows (row_with_key others e.0) _ refl refl)

-- where the first key is greater, all are
pub all_above : (key : KeyValue) (first : KeyValue × RowValue) (rows : DumpRowsValue) → IsRising key_cmp (first ∷ rows) → key_cmp key first.0 ≡ Less → AreAbove key_cmp key (first ∷ rows)
all_above key first rows rising less = (less, each (λ later. key_cmp first.0 later.0 ≡ Less) (λ later. key_cmp key later.0 ≡ Less) (λ later l. key_cmp_total.trans key first.0 later.0 less l) rows rising.0)

-- the key itself is found at once
pub here : (key : KeyValue) (row : RowValue) (others : DumpRowsValue) → row_with_key ((key, row) ∷ others) key ≡ Some row
here key row others = ap (λ o. cond (is_eq o) (Some row) (row_with_key others key)) (tied_itself key_cmp_total key)

-- ---- one step of the walk

-- what a step counts, and what is left to count
pub record IsStep (whole rest : Report) (matching mismatched extra_source extra_target : ℕ) : Type 0 where
  pub matching_is : whole.matching ≡ matching + rest.matching
  pub mismatched_is : whole.mismatched ≡ mismatched + rest.mismatched
  pub extra_source_is : whole.extra_source ≡ extra_source + rest.extra_source
  pub extra_target_is : whole.extra_target ≡ extra_target + rest.extra_target

-- the source's first key is less than all of the target
pub source_alone : (key : KeyValue) (row : RowValue) (lefts right : DumpRowsValue) → AreAbove key_cmp key right → IsStep (report_of ((key, row) ∷ lefts) right) (report_of lefts right) 0 0 1 0
source_alone key row lefts right above =
    let none = none_at key right above in
    record {
      matching_is = counts_first is_matched right key row lefts None 0 none refl;
      mismatched_is = counts_first is_mismatched right key row lefts None 0 none refl;
      extra_source_is = counts_first is_missing right key row lefts None 1 none refl;
      extra_target_is = omega (arith, count_behind is_missing key row lefts right above);
    }

-- the target's first key is less than all of the source
pub target_alone : (key : KeyValue) (row : RowValue) (left rights : DumpRowsValue) → AreAbove key_cmp key left → IsStep (report_of left ((key, row) ∷ rights)) (report_of left rights) 0 0 0 1
target_alone key row left rights above =
    let none = none_at key left above in
    record {
      matching_is = omega (arith, count_behind is_matched key row rights left above);
      mismatched_is = omega (arith, count_behind is_mismatched key row rights left above);
      extra_source_is = omega (arith, count_behind is_missing key row rights left above);
      extra_target_is = counts_first is_missing left key row rights None 1 none refl;
    }

-- one where a test fails
abbrev failed : Bool → ℕ
failed r = cond r 0 1

by_test : (r : Bool) → cond {A = ℕ} (not r) 1 0 ≡ failed r
by_test true = refl
by_test false = refl

-- both have the key
pub both_have : (key : KeyValue) (a b : RowValue) (lefts rights : DumpRowsValue) (r : Bool) → row_eq a b ≡ r → AreAbove key_cmp key lefts → AreAbove key_cmp key rights
    → IsStep (report_of ((key, a) ∷ lefts) ((key, b) ∷ rights)) (report_of lefts rights) (cond r 1 0) (cond r 0 1) 0 0
both_have key a b lefts rights r same above beyond =
    let there = here key b rights in
    let back = here key a lefts in
    record {
      matching_is = counts_first is_matched ((key, b) ∷ rights) key a lefts (Some b) (cond r 1 0) there (ap (λ t. cond {A = ℕ} t 1 0) same) ∙ ap (λ (m : ℕ). cond r 1 0 + m) (count_behind is_matched key b rights lefts above);
      mismatched_is = counts_first is_mismatched ((key, b) ∷ rights) key a lefts (Some b) (cond r 0 1) there (ap (λ t. cond {A = ℕ} (not t) 1 0) same ∙ by_test r) ∙ ap (λ (m : ℕ). cond r 0 1 + m) (count_behind is_mismatched key b rights lefts above);
      extra_source_is = counts_first is_missing ((key, b) ∷ rights) key a lefts (Some b) 0 there refl ∙ ap (λ (m : ℕ). 0 + m) (count_behind is_missing key b rights lefts above);
      extra_target_is = counts_first is_missing ((key, a) ∷ lefts) key b rights (Some a) 0 back refl ∙ ap (λ (m : ℕ). 0 + m) (count_behind is_missing key a lefts rights beyond);
    }

-- ---- the walk

none_matched : (rows : DumpRowsValue) → count_beside is_matched [] rows ≡ 0
none_matched [] = refl
none_matched (row ∷ rows) = omega (arith, counts_first is_matched [] row.0 row.1 rows None 0 refl refl, none_matched rows)

none_mismatched : (rows : DumpRowsValue) → count_beside is_mismatched [] rows ≡ 0
none_mismatched [] = refl
none_mismatched (row ∷ rows) = omega (arith, counts_first is_mismatched [] row.0 row.1 rows None 0 refl refl, none_mismatched rows)

all_missing : (rows : DumpRowsValue) → count_beside is_missing [] rows ≡ length rows
all_missing [] = refl
all_missing (row ∷ rows) =
    let first = counts_first is_missing [] row.0 row.1 rows None 1 refl refl in
    let others = all_missing rows in
    omega (arith, first, others)

source_is_left : (left : DumpRowsValue) → IsStep (report_of left []) (report_of [] []) 0 0 (length left) 0
source_is_left left = record { matching_is = none_matched left; mismatched_is = none_mismatched left; extra_source_is = omega (arith, all_missing left); extra_target_is = refl }

target_is_left : (right : DumpRowsValue) → IsStep (report_of [] right) (report_of [] []) 0 0 0 (length right)
target_is_left right = record { matching_is = refl; mismatched_is = refl; extra_source_is = refl; extra_target_is = omega (arith, all_missing right) }

-- where one is at its end, the other's rows are extra
pub counts_rest : (left right : DumpRowsValue) → (left ≡ []) ⊎ (right ≡ []) → IsStep (report_of left right) (report_of [] []) 0 0 (length left) (length right)
counts_rest left right (inl none) = rw none (target_is_left right)
counts_rest left right (inr none) = rw none (source_is_left left)

-- ---- the first difference

above_lesser : (lesser key : KeyValue) (rows : DumpRowsValue) → key_cmp lesser key ≡ Less → AreAbove key_cmp key rows → AreAbove key_cmp lesser rows
above_lesser lesser key rows less above = each (λ later. key_cmp key later.0 ≡ Less) (λ later. key_cmp lesser later.0 ≡ Less) (λ later l. key_cmp_total.trans lesser key later.0 less l) rows above

-- a key that ties with the row before them isn't among them
pub tied_none : (x : KeyValue × RowValue) (rows : DumpRowsValue) (key : KeyValue) → AreAbove key_cmp x.0 rows → key_cmp key x.0 ≡ Equal → row_with_key rows key ≡ None
tied_none x rows key above tied = none_above key_cmp_total x.0 key rows (tied_back key_cmp_total key x.0 tied) above

pub is_equal : (o : Ordering) → is_eq o ≡ true → o ≡ Equal
is_equal Less e = cc
is_equal Equal e = refl
is_equal Greater e = cc

differs_behind : (x : KeyValue × RowValue) (lefts rights : DumpRowsValue) (key : KeyValue) → AreAbove key_cmp x.0 lefts → AreAbove key_cmp x.0 rights → (row_with_key lefts key ≡ row_with_key rights key → ⊥)
    → (b : Bool) → eq_by_cmp key_cmp key x.0 ≡ b → row_with_key (x ∷ lefts) key ≡ row_with_key (x ∷ rights) key → ⊥
differs_behind x lefts rights key above beyond differ true e same =
    let tied : key_cmp key x.0 ≡ Equal = is_equal (key_cmp key x.0) e in
    differ (tied_none x lefts key above tied ∙ sym (tied_none x rights key beyond tied))
differs_behind x lefts rights key above beyond differ false e same = differ (rw e at same)

-- the first keys of two lists of rows differ, or their rows do: there is the first difference
pub source_first : (key : KeyValue) (row : RowValue) (lefts right : DumpRowsValue) → IsRising key_cmp ((key, row) ∷ lefts) → AreAbove key_cmp key right → IsFirstDifference ((key, row) ∷ lefts) right key
source_first key row lefts right rising above = record {
  differ = λ e. let some : Some row ≡ None = sym (here key row lefts) ∙ e ∙ none_at key right above in cc;
  same_before = λ lesser less. none_at lesser ((key, row) ∷ lefts) (less, above_lesser lesser key lefts less rising.0) ∙ sym (none_at lesser right (above_lesser lesser key right less above));
}

pub target_first : (key : KeyValue) (row : RowValue) (left rights : DumpRowsValue) → IsRising key_cmp ((key, row) ∷ rights) → AreAbove key_cmp key left → IsFirstDifference left ((key, row) ∷ rights) key
target_first key row left rights rising above =
    let turned = source_first key row rights left rising above in
    record { differ = λ e. turned.differ (sym e); same_before = λ lesser less. sym (turned.same_before lesser less) }

pub rows_first : (key : KeyValue) (a b : RowValue) (lefts rights : DumpRowsValue) → (a ≡ b → ⊥) → AreAbove key_cmp key lefts → AreAbove key_cmp key rights → IsFirstDifference ((key, a) ∷ lefts) ((key, b) ∷ rights) key
rows_first key a b lefts rights differ above beyond = record {
  differ = λ e. let some : Some a ≡ Some b = sym (here key a lefts) ∙ e ∙ here key b rights in differ (cc);
  same_before = λ lesser less. none_at lesser ((key, a) ∷ lefts) (less, above_lesser lesser key lefts less above) ∙ sym (none_at lesser ((key, b) ∷ rights) (less, above_lesser lesser key rights less beyond));
}

-- behind a row that both have it is the first difference too
pub first_behind : (x : KeyValue × RowValue) (lefts rights : DumpRowsValue) (key : KeyValue) → AreAbove key_cmp x.0 lefts → AreAbove key_cmp x.0 rights → IsFirstDifference lefts rights key → IsFirstDifference (x ∷ lefts) (x ∷ rights) key
first_behind x lefts rights key above beyond first = record {
  differ = differs_behind x lefts rights key above beyond first.differ (eq_by_cmp key_cmp key x.0) refl;
  same_before = λ lesser less. ap (λ (o : Option RowValue). cond (eq_by_cmp key_cmp lesser x.0) (Some x.1) o) (first.same_before lesser less);
}

-- ---- the five counts as one report

pub report_is : (source target : DumpRowsValue) (matching mismatched extra_source extra_target processed : ℕ) → IsStep (report_of source target) (report_of [] []) matching mismatched extra_source extra_target → processed ≡ matching + mismatched + extra_source + extra_target
    → record { processed = processed; matching = matching; mismatched = mismatched; extra_source = extra_source; extra_target = extra_target } ≡ report_of source target
report_is source target matching mismatched extra_source extra_target processed step sum =
    let whole = report_of source target in
    let a : matching ≡ whole.matching = omega (arith, step.matching_is) in
    let b : mismatched ≡ whole.mismatched = omega (arith, step.mismatched_is) in
    let c : extra_source ≡ whole.extra_source = omega (arith, step.extra_source_is) in
    let d : extra_target ≡ whole.extra_target = omega (arith, step.extra_target_is) in
    let p : processed ≡ whole.processed = omega (arith, a, b, c, d, sum) in
    λ i. record { processed = p i; matching = a i; mismatched = b i; extra_source = c i; extra_target = d i }

-- ---- the loop

-- what is counted and what is left are the whole, and each row of the two is counted once
pub record IsWalked (source target left right : DumpRowsValue) (matching mismatched extra_source extra_target : ℕ) : Type 0 where
  pub counted : IsStep (report_of source target) (report_of left right) matching mismatched extra_source extra_target
  pub of_source : matching + mismatched + extra_source + length left ≡ length source
  pub of_target : matching + mismatched + extra_target + length right ≡ length target
  pub left_rises : IsRising key_cmp left
  pub right_rises : IsRising key_cmp right

-- what two parts count together
pub counts_more : (whole now rest : Report) (a b c d e f g h : ℕ) → IsStep whole now a b c d → IsStep now rest e f g h → (ms bb cs dd : ℕ) → ms ≡ a + e → bb ≡ b + f → cs ≡ c + g → dd ≡ d + h → IsStep whole rest ms bb cs dd
counts_more whole now rest a b c d e f g h first second ms bb cs dd p q r s = record {
  matching_is = omega (arith, first.matching_is, second.matching_is, p);
  mismatched_is = omega (arith, first.mismatched_is, second.mismatched_is, q);
  extra_source_is = omega (arith, first.extra_source_is, second.extra_source_is, r);
  extra_target_is = omega (arith, first.extra_target_is, second.extra_target_is, s);
}

module _ (source target lefts rights : DumpRowsValue) (x y : KeyValue × RowValue) (a b c d : ℕ) where
  pub walks_source : IsWalked source target (x ∷ lefts) (y ∷ rights) a b c d → key_cmp x.0 y.0 ≡ Less → IsWalked source target lefts (y ∷ rights) a b (c + 1) d
  walks_source w less = record {
    counted = counts_more _ _ _ a b c d 0 0 1 0 w.counted (source_alone x.0 x.1 lefts (y ∷ rights) (all_above x.0 y rights w.right_rises less)) _ _ _ _ (omega arith) (omega arith) refl (omega arith);
    of_source = omega (arith, w.of_source);
    of_target = w.of_target;
    left_rises = w.left_rises.1;
    right_rises = w.right_rises;
  }

  pub walks_target : IsWalked source target (x ∷ lefts) (y ∷ rights) a b c d → key_cmp x.0 y.0 ≡ Greater → IsWalked source target (x ∷ lefts) rights a b c (d + 1)
  walks_target w greater =
      let less : key_cmp y.0 x.0 ≡ Less = key_cmp_total.antisymm y.0 x.0 ∙ ap ordering_reverse greater in
      record {
        counted = counts_more _ _ _ a b c d 0 0 0 1 w.counted (target_alone y.0 y.1 (x ∷ lefts) rights (all_above y.0 x lefts w.left_rises less)) _ _ _ _ (omega arith) (omega arith) (omega arith) refl;
        of_source = w.of_source;
        of_target = omega (arith, w.of_target);
        left_rises = w.left_rises;
        right_rises = w.right_rises.1;
      }

  -- both have the key
  both : IsWalked source target (x ∷ lefts) (y ∷ rights) a b c d → x.0 ≡ y.0 → (r : Bool) → row_eq x.1 y.1 ≡ r → IsStep (report_of (x ∷ lefts) (y ∷ rights)) (report_of lefts rights) (cond r 1 0) (cond r 0 1) 0 0
  both w same r test =
      let above : AreAbove key_cmp x.0 rights = subst (λ (key : KeyValue). AreAbove key_cmp key rights) (sym same) w.right_rises.0 in
      subst (λ (key : KeyValue). IsStep (report_of (x ∷ lefts) ((key, y.1) ∷ rights)) (report_of lefts rights) (cond r 1 0) (cond r 0 1) 0 0) same
      (both_have x.0 x.1 y.1 lefts rights r test w.left_rises.0 above)

  pub walks_matching : IsWalked source target (x ∷ lefts) (y ∷ rights) a b c d → x.0 ≡ y.0 → x.1 ≡ y.1 → IsWalked source target lefts rights (a + 1) b c d
  walks_matching w same rows = record {
    counted = counts_more _ _ _ a b c d 1 0 0 0 w.counted (both w same true ((row_eq-Decides x.1 y.1).1 rows)) _ _ _ _ refl (omega arith) (omega arith) (omega arith);
    of_source = omega (arith, w.of_source);
    of_target = omega (arith, w.of_target);
    left_rises = w.left_rises.1;
    right_rises = w.right_rises.1;
  }

  pub walks_mismatched : IsWalked source target (x ∷ lefts) (y ∷ rights) a b c d → x.0 ≡ y.0 → (x.1 ≡ y.1 → ⊥) → IsWalked source target lefts rights a (b + 1) c d
  walks_mismatched w same rows = record {
    counted = counts_more _ _ _ a b c d 0 1 0 0 w.counted (both w same false (false_from_ne_true (row_eq x.1 y.1) (λ e. rows ((row_eq-Decides x.1 y.1).0 e)))) _ _ _ _ (omega arith) refl (omega arith) (omega arith);
    of_source = omega (arith, w.of_source);
    of_target = omega (arith, w.of_target);
    left_rises = w.left_rises.1;
    right_rises = w.right_rises.1;
  }

-- where one is at its end, what is left of the other is extra
pub walk_ends : (source target left right : DumpRowsValue) (a b c d : ℕ) → IsWalked source target left right a b c d → (left ≡ []) ⊎ (right ≡ [])
    → record { processed = a + b + (c + length left) + (d + length right); matching = a; mismatched = b; extra_source = c + length left; extra_target = d + length right } ≡ report_of source target
walk_ends source target left right a b c d w end =
    report_is source target a b (c + length left) (d + length right) (a + b + (c + length left) + (d + length right))
    (counts_more _ _ _ a b c d 0 0 (length left) (length right) w.counted (counts_rest left right end) _ _ _ _ (omega arith) (omega arith) refl refl) refl

pub none_of : (rows : DumpRowsValue) → length rows ≡ 0 → rows ≡ []
none_of [] e = refl
none_of (row ∷ rows) e = absurd (omega arith)

-- ---- the loop to the first difference

-- the first difference of what is left is that of the whole
pub record IsSameSoFar (source target left right : DumpRowsValue) : Type 0 where
  pub same : left ≡ right → source ≡ target
  pub first : (key : KeyValue) → IsFirstDifference left right key → IsFirstDifference source target key
  pub left_rises : IsRising key_cmp left
  pub right_rises : IsRising key_cmp right

pub same_at_first : (source target : DumpRowsValue) → IsRising key_cmp source → IsRising key_cmp target → IsSameSoFar source target source target
same_at_first source target left right = record { same = λ e. e; first = λ key d. d; left_rises = left; right_rises = right }

module _ (source target : DumpRowsValue) (x y : KeyValue × RowValue) (lefts rights : DumpRowsValue) where
  pub stops_at_source : IsSameSoFar source target (x ∷ lefts) (y ∷ rights) → key_cmp x.0 y.0 ≡ Less → IsFirstDifference source target x.0
  stops_at_source w less = w.first x.0 (source_first x.0 x.1 lefts (y ∷ rights) w.left_rises (all_above x.0 y rights w.right_rises less))

  pub stops_at_target : IsSameSoFar source target (x ∷ lefts) (y ∷ rights) → key_cmp x.0 y.0 ≡ Greater → IsFirstDifference source target y.0
  stops_at_target w greater =
      let less : key_cmp y.0 x.0 ≡ Less = key_cmp_total.antisymm y.0 x.0 ∙ ap ordering_reverse greater in
      w.first y.0 (target_first y.0 y.1 (x ∷ lefts) rights w.right_rises (all_above y.0 x lefts w.left_rises less))

  pub stops_at_rows : IsSameSoFar source target (x ∷ lefts) (y ∷ rights) → x.0 ≡ y.0 → (x.1 ≡ y.1 → ⊥) → IsFirstDifference source target x.0
  stops_at_rows w same rows =
      let above : AreAbove key_cmp x.0 rights = subst (λ (key : KeyValue). AreAbove key_cmp key rights) (sym same) w.right_rises.0 in
      w.first x.0 (subst (λ (key : KeyValue). IsFirstDifference (x ∷ lefts) ((key, y.1) ∷ rights) x.0) same (rows_first x.0 x.1 y.1 lefts rights rows w.left_rises.0 above))

  pub same_for_longer : IsSameSoFar source target (x ∷ lefts) (y ∷ rights) → x.0 ≡ y.0 → x.1 ≡ y.1 → IsSameSoFar source target lefts rights
  same_for_longer w key row =
      let pair : x ≡ y = λ i. (key i, row i) in
      let above : AreAbove key_cmp x.0 rights = subst (λ (key : KeyValue). AreAbove key_cmp key rights) (sym key) w.right_rises.0 in
      record {
        same = λ e. w.same (λ i. pair i ∷ e i);
        first = λ k d. w.first k (subst (λ (z : KeyValue × RowValue). IsFirstDifference (x ∷ lefts) (z ∷ rights) k) pair (first_behind x lefts rights k w.left_rises.0 above d));
        left_rises = w.left_rises.1;
        right_rises = w.right_rises.1;
      }

-- one of the two is at its end, and the other isn't
pub rest_of_source : (source target left right : DumpRowsValue) (x : KeyValue × RowValue) → IsSameSoFar source target left right → (left ≡ []) ⊎ (right ≡ []) → Some x ≡ slice_get left 0 → IsFirstDifference source target x.0
rest_of_source source target [] right x w end e = cc
rest_of_source source target (z ∷ zs) right x w (inl none) e = cc
rest_of_source source target (z ∷ zs) right x w (inr none) e =
    let is : x ≡ z = cc in
    let v : IsSameSoFar source target (z ∷ zs) [] = subst (λ (l : DumpRowsValue). IsSameSoFar source target (z ∷ zs) l) none w in
    rw is (v.first z.0 (source_first z.0 z.1 zs [] v.left_rises tt))

pub rest_of_target : (source target left right : DumpRowsValue) (y : KeyValue × RowValue) → IsSameSoFar source target left right → None ≡ slice_get left 0 → Some y ≡ slice_get right 0 → IsFirstDifference source target y.0
rest_of_target source target (z ∷ zs) right y w none e = cc
rest_of_target source target [] [] y w none e = cc
rest_of_target source target [] (z ∷ zs) y w none e =
    let is : y ≡ z = cc in
    rw is (w.first z.0 (target_first z.0 z.1 [] zs w.right_rises tt))
