-- The keys of a patch rise.
use Rattle.std.proofs.Common.{◌≡◌, ◌∙◌, ℕ, zero, suc, ◌+◌, ◌≤◌, [], ◌∷◌, ◌++◌, length, true, false, refl, sym, ap, subst, Bool, Ordering, Some, map, arith}
use Rattle.std.specs.Ordering.{ordering_reverse}
use Rattle.std.specs.declared.cmp.Ordering.TheVariants.{Less, Equal, Greater}
use Rattle.pk_copy.specs.KeyOrder.{key_cmp}
use Rattle.pk_copy.specs.KeyOrderLaws.{key_cmp_total}
use Rattle.pk_copy.specs.KeyValue.{KeyValue}
use Rattle.target_tables.specs.Rising.{IsRising, AreAbove}
use Rattle.vdiff.specs.Report.{row_eq}
use Rattle.dump.specs.DumpRowsValue.{RowValue, DumpRowsValue}
use Rattle.vdiff.proofs.ReportLaws.{all_above}
use Rattle.vdiff.proofs.DifferenceLaws.{Tie}
use Rattle.vdiff_patch.specs.AllDifferences.{of_source, differences_of}
use Rattle.vdiff_patch.specs.Patch.{change_at, patch_of}
use Rattle.vdiff_patch.proofs.StepLaws.{source_alone, target_alone, both_have, of_same, of_other}

module _ (tie : Tie) (key : KeyValue) where
  -- they are greater than a key that all rows' keys are greater than
  above_by : (x y : KeyValue × RowValue) (lefts rights : DumpRowsValue) → IsRising key_cmp (x ∷ lefts) → IsRising key_cmp (y ∷ rights) → AreAbove key_cmp key (x ∷ lefts) → AreAbove key_cmp key (y ∷ rights)
      → AreAbove key_cmp key (patch_of lefts (y ∷ rights)) → AreAbove key_cmp key (patch_of (x ∷ lefts) rights) → AreAbove key_cmp key (patch_of lefts rights)
      → (o : Ordering) → key_cmp x.0 y.0 ≡ o → AreAbove key_cmp key (patch_of (x ∷ lefts) (y ∷ rights))
  above_by x y lefts rights rising rises above beyond insert_then delete_then both_then Less e =
      rw (source_alone x lefts (y ∷ rights) (all_above x.0 y rights rises e)) (above.0, insert_then)
  above_by x y lefts rights rising rises above beyond insert_then delete_then both_then Greater e =
      let less : key_cmp y.0 x.0 ≡ Less = key_cmp_total.antisymm y.0 x.0 ∙ ap ordering_reverse e in
      rw (target_alone (x ∷ lefts) y rights (all_above y.0 x lefts rising less)) (beyond.0, delete_then)
  above_by x y lefts rights rising rises above beyond insert_then delete_then both_then Equal e =
      let same : x.0 ≡ y.0 = tie x.0 y.0 e in
      let past : AreAbove key_cmp x.0 rights = subst (λ (k : KeyValue). AreAbove key_cmp k rights) (sym same) rises.0 in
      subst (λ (k : KeyValue). AreAbove key_cmp key (patch_of (x ∷ lefts) ((k, y.1) ∷ rights))) same
      (rw (both_have x.0 x.1 y.1 lefts rights past) (by_test (row_eq x.1 y.1) refl))
    where
      by_test : (r : Bool) → row_eq x.1 y.1 ≡ r → AreAbove key_cmp key (map change_at (of_source (x.0, x.1) (Some y.1) ++ differences_of lefts rights))
      by_test true same = rw (of_same x.0 x.1 y.1 same) both_then
      by_test false other = rw (of_other x.0 x.1 y.1 other) (above.0, both_then)

  patch_above : (n : ℕ) (left right : DumpRowsValue) → length left + length right ≤ n → IsRising key_cmp left → IsRising key_cmp right → AreAbove key_cmp key left → AreAbove key_cmp key right → AreAbove key_cmp key (patch_of left right)
  patch_above n [] [] le rising rises above beyond = tt
  patch_above zero (x ∷ lefts) right le rising rises above beyond = absurd (omega arith)
  patch_above zero [] (y ∷ rights) le rising rises above beyond = absurd (omega arith)
  patch_above (suc n) [] (y ∷ rights) le rising rises above beyond = (beyond.0, patch_above n [] rights (omega arith) tt rises.1 tt beyond.1)
  patch_above (suc n) (x ∷ lefts) [] le rising rises above beyond = (above.0, patch_above n lefts [] (omega arith) rising.1 tt above.1 tt)
  patch_above (suc n) (x ∷ lefts) (y ∷ rights) le rising rises above beyond =
      above_by x y lefts rights rising rises above beyond
      (patch_above n lefts (y ∷ rights) (omega arith) rising.1 rises above.1 beyond)
      (patch_above n (x ∷ lefts) rights (omega arith) rising rises.1 above beyond.1)
      (patch_above n lefts rights (omega arith) rising.1 rises.1 above.1 beyond.1)
      (key_cmp x.0 y.0) refl

module _ (tie : Tie) where
  -- the keys that are greater than this one, which comes first
  all_past : (key : KeyValue) (left right : DumpRowsValue) → IsRising key_cmp left → IsRising key_cmp right → AreAbove key_cmp key left → AreAbove key_cmp key right → AreAbove key_cmp key (patch_of left right)
  all_past key left right rising rises above beyond = patch_above tie key (length left + length right) left right (omega arith) rising rises above beyond

  rises_by : (x y : KeyValue × RowValue) (lefts rights : DumpRowsValue) → IsRising key_cmp (x ∷ lefts) → IsRising key_cmp (y ∷ rights)
      → IsRising key_cmp (patch_of lefts (y ∷ rights)) → IsRising key_cmp (patch_of (x ∷ lefts) rights) → IsRising key_cmp (patch_of lefts rights)
      → (o : Ordering) → key_cmp x.0 y.0 ≡ o → IsRising key_cmp (patch_of (x ∷ lefts) (y ∷ rights))
  rises_by x y lefts rights rising rises insert_then delete_then both_then Less e =
      let above : AreAbove key_cmp x.0 (y ∷ rights) = all_above x.0 y rights rises e in
      rw (source_alone x lefts (y ∷ rights) above) (all_past x.0 lefts (y ∷ rights) rising.1 rises rising.0 above, insert_then)
  rises_by x y lefts rights rising rises insert_then delete_then both_then Greater e =
      let less : key_cmp y.0 x.0 ≡ Less = key_cmp_total.antisymm y.0 x.0 ∙ ap ordering_reverse e in
      let above : AreAbove key_cmp y.0 (x ∷ lefts) = all_above y.0 x lefts rising less in
      rw (target_alone (x ∷ lefts) y rights above) (all_past y.0 (x ∷ lefts) rights rising rises.1 above rises.0, delete_then)
  rises_by x y lefts rights rising rises insert_then delete_then both_then Equal e =
      let same : x.0 ≡ y.0 = tie x.0 y.0 e in
      let past : AreAbove key_cmp x.0 rights = subst (λ (k : KeyValue). AreAbove key_cmp k rights) (sym same) rises.0 in
      subst (λ (k : KeyValue). IsRising key_cmp (patch_of (x ∷ lefts) ((k, y.1) ∷ rights))) same
      (rw (both_have x.0 x.1 y.1 lefts rights past) (by_test (all_past x.0 lefts rights rising.1 rises.1 rising.0 past) (row_eq x.1 y.1) refl))
    where
      by_test : AreAbove key_cmp x.0 (patch_of lefts rights) → (r : Bool) → row_eq x.1 y.1 ≡ r → IsRising key_cmp (map change_at (of_source (x.0, x.1) (Some y.1) ++ differences_of lefts rights))
      by_test beyond true same = rw (of_same x.0 x.1 y.1 same) both_then
      by_test beyond false other = rw (of_other x.0 x.1 y.1 other) (beyond, both_then)

  rises_to : (n : ℕ) (left right : DumpRowsValue) → length left + length right ≤ n → IsRising key_cmp left → IsRising key_cmp right → IsRising key_cmp (patch_of left right)
  rises_to n [] [] le rising rises = tt
  rises_to zero (x ∷ lefts) right le rising rises = absurd (omega arith)
  rises_to zero [] (y ∷ rights) le rising rises = absurd (omega arith)
  rises_to (suc n) [] (y ∷ rights) le rising rises = (all_past y.0 [] rights tt rises.1 tt rises.0, rises_to n [] rights (omega arith) tt rises.1)
  rises_to (suc n) (x ∷ lefts) [] le rising rises = (all_past x.0 lefts [] rising.1 tt rising.0 tt, rises_to n lefts [] (omega arith) rising.1 tt)
  rises_to (suc n) (x ∷ lefts) (y ∷ rights) le rising rises =
      rises_by x y lefts rights rising rises
      (rises_to n lefts (y ∷ rights) (omega arith) rising.1 rises)
      (rises_to n (x ∷ lefts) rights (omega arith) rising rises.1)
      (rises_to n lefts rights (omega arith) rising.1 rises.1)
      (key_cmp x.0 y.0) refl

  pub patch_rises : (source target : DumpRowsValue) → IsRising key_cmp source → IsRising key_cmp target → IsRising key_cmp (patch_of source target)
  patch_rises source target rising rises = rises_to (length source + length target) source target (omega arith) rising rises
