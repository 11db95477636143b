-- Two lists of rows by rising key, walked to their first difference.
use Rattle.std.proofs.Common.{◌≡◌, ◌∙◌, ◌∷◌, refl, sym, ap, subst, Some, None}
use Rattle.std.proofs.lemmas.Bool.{false_from_ne_true}
use Rattle.std.specs.Ordering.{ordering_reverse}
use Rattle.std.specs.declared.cmp.Ordering.TheVariants.{Less, Greater}
use Rattle.pk_copy.specs.KeyOrder.{key_cmp}
use Rattle.pk_copy.specs.KeyOrderLaws.{key_cmp_total}
use Rattle.pk_copy.specs.KeyValue.{KeyValue}
use Rattle.target_tables.specs.Rising.{IsRising, AreAbove}
use Rattle.vdiff.specs.Report.{row_eq}
use Rattle.dump.specs.DumpRowsValue.{RowValue, DumpRowsValue}
use Rattle.vdiff.proofs.ReportLaws.{all_above, row_eq-Decides}
use Rattle.vdiff.specs.Differences.{Difference}
use Rattle.vdiff_patch.specs.AllDifferences.{differences_of}
use Rattle.vdiff_patch.specs.Private.Walk.{IsFirst, IsBehindSame}
use Rattle.vdiff_patch.proofs.StepLaws.{source_alone, target_alone, both_have, of_same, of_other}

-- a lesser key than the first is less than all
pub above_of_greater : (x y : KeyValue × RowValue) (lefts : DumpRowsValue) → IsRising key_cmp (x ∷ lefts) → key_cmp x.0 y.0 ≡ Greater → AreAbove key_cmp y.0 (x ∷ lefts)
above_of_greater x y lefts rising greater =
    let less : key_cmp y.0 x.0 ≡ Less = key_cmp_total.antisymm y.0 x.0 ∙ ap ordering_reverse greater in
    all_above y.0 x lefts rising less

-- ---- the first of what is left

pub first_of_source : (key : KeyValue) (row : RowValue) (lefts right : DumpRowsValue) → IsRising key_cmp ((key, row) ∷ lefts) → IsRising key_cmp right → AreAbove key_cmp key right
    → IsFirst ((key, row) ∷ lefts) right (record { key = key; source = Some row; target = None }) lefts right
first_of_source key row lefts right rising rises above = record { whole = source_alone (key, row) lefts right above; source_rises = rising.1; target_rises = rises }

pub first_of_target : (key : KeyValue) (row : RowValue) (left rights : DumpRowsValue) → IsRising key_cmp left → IsRising key_cmp ((key, row) ∷ rights) → AreAbove key_cmp key left
    → IsFirst left ((key, row) ∷ rights) (record { key = key; source = None; target = Some row }) left rights
first_of_target key row left rights rising rises above = record { whole = target_alone left (key, row) rights above; source_rises = rising; target_rises = rises.1 }

pub first_of_both : (key other : KeyValue) (a b : RowValue) (lefts rights : DumpRowsValue) → IsRising key_cmp ((key, a) ∷ lefts) → IsRising key_cmp ((other, b) ∷ rights) → key ≡ other → (a ≡ b → ⊥)
    → IsFirst ((key, a) ∷ lefts) ((other, b) ∷ rights) (record { key = key; source = Some a; target = Some b }) lefts rights
first_of_both key other a b lefts rights rising rises same differ =
    let beyond : AreAbove key_cmp key rights = subst (λ (k : KeyValue). AreAbove key_cmp k rights) (sym same) rises.0 in
    let unlike = false_from_ne_true (row_eq a b) (λ e. differ ((row_eq-Decides a b).0 e)) in
    record {
      whole = ap (λ (k : KeyValue). differences_of ((key, a) ∷ lefts) ((k, b) ∷ rights)) (sym same) ∙ rw (both_have key a b lefts rights beyond, of_other key a b unlike) refl;
      source_rises = rising.1;
      target_rises = rises.1;
    }

-- what is first of what is left behind the same is first of the whole
pub first_through : (source target left right : DumpRowsValue) (first : Difference) (source_left target_left : DumpRowsValue) → IsBehindSame source target left right → IsFirst left right first source_left target_left → IsFirst source target first source_left target_left
first_through source target left right first source_left target_left walked is = record { whole = walked.same ∙ is.whole; source_rises = is.source_rises; target_rises = is.target_rises }

-- ---- the walk over what is the same

pub same_at_first : (source target : DumpRowsValue) → IsRising key_cmp source → IsRising key_cmp target → IsBehindSame source target source target
same_at_first source target rising rises = record { same = refl; left_rises = rising; right_rises = rises }

pub same_for_longer : (source target : DumpRowsValue) (x y : KeyValue × RowValue) (lefts rights : DumpRowsValue) → IsBehindSame source target (x ∷ lefts) (y ∷ rights) → x ≡ y → IsBehindSame source target lefts rights
same_for_longer source target x y lefts rights w same =
    let key = ap (λ (e : KeyValue × RowValue). e.0) same in
    let row = ap (λ (e : KeyValue × RowValue). e.1) same in
    let beyond : AreAbove key_cmp x.0 rights = subst (λ (k : KeyValue). AreAbove key_cmp k rights) (sym key) w.right_rises.0 in
    let turned : differences_of (x ∷ lefts) (y ∷ rights) ≡ differences_of (x ∷ lefts) ((x.0, y.1) ∷ rights) = ap (λ (k : KeyValue). differences_of (x ∷ lefts) ((k, y.1) ∷ rights)) (sym key) in
    record {
      same = w.same ∙ turned ∙ rw (both_have x.0 x.1 y.1 lefts rights beyond, of_same x.0 x.1 y.1 ((row_eq-Decides x.1 y.1).1 row)) refl;
      left_rises = w.left_rises.1;
      right_rises = w.right_rises.1;
    }
