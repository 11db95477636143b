-- The rows of two lists by rising key together, and how many keys they have.
use Rattle.std.proofs.Common.{◌≡◌, ℕ, ◌+◌, ◌≤◌, inl, inr, [], ◌∷◌, length, cond, true, false, refl, sym, ap, ◌∙◌, Option, Some, None, subst, arith, Ordering}
use Rattle.std.specs.Prelude.{Bool, zero, suc}
use Rattle.std.specs.Option.{option_or}
use Rattle.std.specs.Ordering.{eq_by_cmp, ordering_reverse}
use Rattle.std.specs.declared.cmp.Ordering.TheVariants.{Less, Equal, Greater}
use Rattle.pk_copy.specs.KeyOrder.{key_cmp}
use Rattle.pk_copy.specs.KeyOrderLaws.{key_cmp_total}
use Rattle.pk_copy.specs.KeyValue.{KeyValue}
use Rattle.target_tables.specs.Rising.{IsRising, AreAbove}
use Rattle.vdiff.specs.Report.{row_eq, report_of, AreTogether, HaveKeys}
use Rattle.dump.specs.DumpRowsValue.{RowValue, DumpRowsValue, row_with_key}
use Rattle.vdiff.proofs.ReportLaws.{all_above, both_have, counts_rest, is_equal, source_alone, target_alone, tied_none}

-- these are the rows of both, and as many as are processed
pub record IsCounted (left right both : DumpRowsValue) : Type 0 where
  pub together : AreTogether left right both
  pub above : (key : KeyValue) → AreAbove key_cmp key left → AreAbove key_cmp key right → AreAbove key_cmp key both
  pub count : (report_of left right).processed ≡ length both

-- ---- what stands at a key, behind the test of the first key

or_none : (row : Option RowValue) → row ≡ option_or row None
or_none None = refl
or_none (Some row) = refl

left_at : (here : Bool) (row : RowValue) (both left right : Option RowValue) → both ≡ option_or left right → cond here (Some row) both ≡ option_or (cond here (Some row) left) right
left_at true row both left right is = refl
left_at false row both left right is = is

right_at : (here : Bool) (row : RowValue) (both left right : Option RowValue) → (here ≡ true → left ≡ None) → both ≡ option_or left right → cond here (Some row) both ≡ option_or left (cond here (Some row) right)
right_at true row both left right none is = ap (λ (l : Option RowValue). option_or l (Some row)) (sym (none refl))
right_at false row both left right none is = is

both_at : (here : Bool) (a b : RowValue) (both left right : Option RowValue) → both ≡ option_or left right → cond here (Some a) both ≡ option_or (cond here (Some a) left) (cond here (Some b) right)
both_at true a b both left right is = refl
both_at false a b both left right is = is

-- ---- one step

left_first : (x : KeyValue × RowValue) (lefts right both : DumpRowsValue) → AreAbove key_cmp x.0 lefts → AreAbove key_cmp x.0 right → IsCounted lefts right both → IsCounted (x ∷ lefts) right (x ∷ both)
left_first x lefts right both above beyond is =
    let step = source_alone x.0 x.1 lefts right beyond in
    record {
      together = record {
        rising = (is.above x.0 above beyond, is.together.rising);
        each_key = λ key. left_at (eq_by_cmp key_cmp key x.0) x.1 (row_with_key both key) (row_with_key lefts key) (row_with_key right key) (is.together.each_key key);
      };
      above = λ key a b. (a.0, is.above key a.1 b);
      count = omega (arith, step.matching_is, step.mismatched_is, step.extra_source_is, step.extra_target_is, is.count);
    }

right_first : (y : KeyValue × RowValue) (left rights both : DumpRowsValue) → AreAbove key_cmp y.0 left → AreAbove key_cmp y.0 rights → IsCounted left rights both → IsCounted left (y ∷ rights) (y ∷ both)
right_first y left rights both above beyond is =
    let step = target_alone y.0 y.1 left rights above in
    record {
      together = record {
        rising = (is.above y.0 above beyond, is.together.rising);
        each_key = λ key. right_at (eq_by_cmp key_cmp key y.0) y.1 (row_with_key both key) (row_with_key left key) (row_with_key rights key)
            (λ e. tied_none y left key above (is_equal (key_cmp key y.0) e)) (is.together.each_key key);
      };
      above = λ key a b. (b.0, is.above key a b.1);
      count = omega (arith, step.matching_is, step.mismatched_is, step.extra_source_is, step.extra_target_is, is.count);
    }

one_of_two : (r : Bool) → cond {A = ℕ} r 1 0 + cond {A = ℕ} r 0 1 ≡ 1
one_of_two true = refl
one_of_two false = refl

both_first : (key : KeyValue) (a b : RowValue) (lefts rights both : DumpRowsValue) → AreAbove key_cmp key lefts → AreAbove key_cmp key rights → IsCounted lefts rights both → IsCounted ((key, a) ∷ lefts) ((key, b) ∷ rights) ((key, a) ∷ both)
both_first key a b lefts rights both above beyond is =
    let step = both_have key a b lefts rights (row_eq a b) refl above beyond in
    record {
      together = record {
        rising = (is.above key above beyond, is.together.rising);
        each_key = λ other. both_at (eq_by_cmp key_cmp other key) a b (row_with_key both other) (row_with_key lefts other) (row_with_key rights other) (is.together.each_key other);
      };
      above = λ other l r. (l.0, is.above other l.1 r.1);
      count = omega (arith, step.matching_is, step.mismatched_is, step.extra_source_is, step.extra_target_is, one_of_two (row_eq a b), is.count);
    }

-- ---- all of both

none_left : (right : DumpRowsValue) → IsRising key_cmp right → IsCounted [] right right
none_left right rising =
    let step = counts_rest [] right (inl refl) in
    record {
      together = record { rising = rising; each_key = λ key. refl };
      above = λ key a b. b;
      count = omega (arith, step.matching_is, step.mismatched_is, step.extra_source_is, step.extra_target_is);
    }

none_right : (left : DumpRowsValue) → IsRising key_cmp left → IsCounted left [] left
none_right left rising =
    let step = counts_rest left [] (inr refl) in
    record {
      together = record { rising = rising; each_key = λ key. or_none (row_with_key left key) };
      above = λ key a b. a;
      count = omega (arith, step.matching_is, step.mismatched_is, step.extra_source_is, step.extra_target_is);
    }

-- rows of two lists can be put together, where they are so many at most
abbrev Joins : ℕ → Type 0
Joins most = (left right : DumpRowsValue) → length left + length right ≤ most → IsRising key_cmp left → IsRising key_cmp right → (both : DumpRowsValue) × IsCounted left right both

module _ (same : (a b : KeyValue) → key_cmp a b ≡ Equal → a ≡ b) where
  -- by the first keys of both
  first_of : (most : ℕ) → Joins most → (x y : KeyValue × RowValue) (lefts rights : DumpRowsValue) → length (x ∷ lefts) + length (y ∷ rights) ≤ suc most
      → IsRising key_cmp (x ∷ lefts) → IsRising key_cmp (y ∷ rights) → (o : Ordering) → key_cmp x.0 y.0 ≡ o → (both : DumpRowsValue) × IsCounted (x ∷ lefts) (y ∷ rights) both
  first_of most joins x y lefts rights few l r Less less =
      let rest = joins lefts (y ∷ rights) (omega (arith, few)) l.1 r in
      (x ∷ rest.0, left_first x lefts (y ∷ rights) rest.0 l.0 (all_above x.0 y rights r less) rest.1)
  first_of most joins x y lefts rights few l r Greater greater =
      let less : key_cmp y.0 x.0 ≡ Less = key_cmp_total.antisymm y.0 x.0 ∙ ap ordering_reverse greater in
      let rest = joins (x ∷ lefts) rights (omega (arith, few)) l r.1 in
      (y ∷ rest.0, right_first y (x ∷ lefts) rights rest.0 (all_above y.0 x lefts l less) r.0 rest.1)
  first_of most joins x y lefts rights few l r Equal tied =
      let key : x.0 ≡ y.0 = same x.0 y.0 tied in
      let rest = joins lefts rights (omega (arith, few)) l.1 r.1 in
      let above : AreAbove key_cmp x.0 rights = subst (λ (k : KeyValue). AreAbove key_cmp k rights) (sym key) r.0 in
      (x ∷ rest.0, subst (λ (k : KeyValue). IsCounted (x ∷ lefts) ((k, y.1) ∷ rights) (x ∷ rest.0)) key (both_first x.0 x.1 y.1 lefts rights rest.0 l.0 above rest.1))

  counted : (most : ℕ) → Joins most
  counted most [] right few l r = (right, none_left right r)
  counted most (x ∷ lefts) [] few l r = (x ∷ lefts, none_right (x ∷ lefts) l)
  counted zero (x ∷ lefts) (y ∷ rights) few l r = absurd (omega (arith, few))
  counted (suc most) (x ∷ lefts) (y ∷ rights) few l r = first_of most (counted most) x y lefts rights few l r (key_cmp x.0 y.0) refl

  -- as many keys as are processed stand in either
  pub processed_keys : (source target : DumpRowsValue) → IsRising key_cmp source → IsRising key_cmp target → HaveKeys source target (report_of source target).processed
  processed_keys source target l r =
      let all = counted (length source + length target) source target (omega arith) l r in
      (all.0, all.1.together, all.1.count)
