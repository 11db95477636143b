-- Two lists of rows by rising key, walked behind what is the same.
use Rattle.std.proofs.Common.{◌≡◌, ◌∙◌, [], ◌∷◌, cond, refl, sym, ap, subst, Some, None, Ordering}
use Rattle.std.specs.Ordering.{is_eq, is_lt, ordering_reverse}
use Rattle.std.specs.declared.cmp.Ordering.TheVariants.{Less, Equal, Greater}
use Rattle.std.proofs.lemmas.Cmp.{tied_itself}
use Rattle.list_laws.proofs.Fronts.{each}
use Rattle.pk_copy.specs.KeyOrder.{key_cmp}
use Rattle.pk_copy.specs.KeyOrderLaws.{key_cmp_total}
use Rattle.pk_copy.specs.KeyValue.{KeyValue}
use Rattle.target_tables.specs.Rising.{IsRising, AreAbove}
use Rattle.dump.specs.DumpRowsValue.{RowValue, DumpRowsValue, row_with_key}
use Rattle.vdiff.proofs.ReportLaws.{all_above, none_at, tied_none, source_first, target_first, rows_first, first_behind, here}
use Rattle.vdiff.specs.Differences.{Difference, rows_past}
use Rattle.vdiff.specs.Found.{IsNextDifference}
use Rattle.vdiff.specs.Private.Same.{Differ, IsBehindSame}

-- ---- rows at greater keys

-- where all are greater they are all
pub behind_all : (key : KeyValue) (rows : DumpRowsValue) → AreAbove key_cmp key rows → rows_past key rows ≡ rows
behind_all key [] above = refl
behind_all key (row ∷ rows) above = rw above.0 (ap (λ (l : DumpRowsValue). row ∷ l) (behind_all key rows above.1))

-- the row at the key itself isn't among them
pub behind_itself : (key : KeyValue) (row : RowValue) (rows : DumpRowsValue) → AreAbove key_cmp key rows → rows_past key ((key, row) ∷ rows) ≡ rows
behind_itself key row rows above = rw (tied_itself key_cmp_total key) (behind_all key rows above)

-- a lesser key than the first is less than all
pub above_of_greater : (x y : KeyValue × RowValue) (lefts : DumpRowsValue) → IsRising key_cmp (x ∷ lefts) → key_cmp x.0 y.0 ≡ Greater → AreAbove key_cmp y.0 (x ∷ lefts)
above_of_greater x y lefts rising greater =
    let less : key_cmp y.0 x.0 ≡ Less = key_cmp_total.antisymm y.0 x.0 ∙ ap ordering_reverse greater in
    all_above y.0 x lefts rising less

-- ---- the first of what is left is the next

pub next_of_source : (key : KeyValue) (row : RowValue) (lefts right : DumpRowsValue) → IsRising key_cmp ((key, row) ∷ lefts) → AreAbove key_cmp key right
    → IsNextDifference ((key, row) ∷ lefts) right (record { key = key; source = Some row; target = None }) lefts right
next_of_source key row lefts right rising above = record {
  is_least = record { first = source_first key row lefts right rising above; source_row = sym (here key row lefts); target_row = sym (none_at key right above) };
  source_behind = sym (behind_itself key row lefts rising.0);
  target_behind = sym (behind_all key right above);
}

pub next_of_target : (key : KeyValue) (row : RowValue) (left rights : DumpRowsValue) → IsRising key_cmp ((key, row) ∷ rights) → AreAbove key_cmp key left
    → IsNextDifference left ((key, row) ∷ rights) (record { key = key; source = None; target = Some row }) left rights
next_of_target key row left rights rising above = record {
  is_least = record { first = target_first key row left rights rising above; source_row = sym (none_at key left above); target_row = sym (here key row rights) };
  source_behind = sym (behind_all key left above);
  target_behind = sym (behind_itself key row rights rising.0);
}

pub next_of_both : (key other : KeyValue) (a b : RowValue) (lefts rights : DumpRowsValue) → IsRising key_cmp ((key, a) ∷ lefts) → IsRising key_cmp ((other, b) ∷ rights) → key ≡ other → (a ≡ b → ⊥)
    → IsNextDifference ((key, a) ∷ lefts) ((other, b) ∷ rights) (record { key = key; source = Some a; target = Some b }) lefts rights
next_of_both key other a b lefts rights rising rises same differ =
    let beyond : AreAbove key_cmp key rights = subst (λ (k : KeyValue). AreAbove key_cmp k rights) (sym same) rises.0 in
    subst (λ (k : KeyValue). IsNextDifference ((key, a) ∷ lefts) ((k, b) ∷ rights) (record { key = key; source = Some a; target = Some b }) lefts rights) same
    (record {
      is_least = record { first = rows_first key a b lefts rights differ rising.0 beyond; source_row = sym (here key a lefts); target_row = sym (here key b rights) };
      source_behind = sym (behind_itself key a lefts rising.0);
      target_behind = sym (behind_itself key b rights beyond);
    })

-- what is next behind the same is next of the whole
pub next_through : (source target left right : DumpRowsValue) (least : Difference) (source_left target_left : DumpRowsValue) → IsBehindSame source target left right → IsNextDifference left right least source_left target_left → IsNextDifference source target least source_left target_left
next_through source target left right least source_left target_left walked next = record {
  is_least = record {
    first = walked.first least.key next.is_least.first;
    source_row = next.is_least.source_row ∙ sym (walked.source_row least.key next.is_least.first.differ);
    target_row = next.is_least.target_row ∙ sym (walked.target_row least.key next.is_least.first.differ);
  };
  source_behind = next.source_behind ∙ sym (walked.source_behind least.key next.is_least.first.differ);
  target_behind = next.target_behind ∙ sym (walked.target_behind least.key next.is_least.first.differ);
}

-- ---- the walk over what is the same

pub same_at_first : (source target : DumpRowsValue) → IsRising key_cmp source → IsRising key_cmp target → IsBehindSame source target source target
same_at_first source target rising rises = record {
  same = λ e. e;
  first = λ key first. first;
  source_row = λ key differ. refl;
  target_row = λ key differ. refl;
  source_behind = λ key differ. refl;
  target_behind = λ key differ. refl;
  left_rises = rising;
  right_rises = rises;
}

-- a row that both have, and a key at which the rows behind it differ: the key is greater
module _ (x : KeyValue × RowValue) (lefts rights : DumpRowsValue) (key : KeyValue) where
  greater : AreAbove key_cmp x.0 lefts → AreAbove key_cmp x.0 rights → Differ lefts rights key → (o : Ordering) → key_cmp key x.0 ≡ o → o ≡ Greater
  greater above beyond differ Less e =
      let far : (rows : DumpRowsValue) → AreAbove key_cmp x.0 rows → AreAbove key_cmp key rows = λ rows is. each (λ later. key_cmp x.0 later.0 ≡ Less) (λ later. key_cmp key later.0 ≡ Less) (λ later l. key_cmp_total.trans key x.0 later.0 e l) rows is in
      absurd (differ (none_at key lefts (far lefts above) ∙ sym (none_at key rights (far rights beyond))))
  greater above beyond differ Equal e = absurd (differ (tied_none x lefts key above e ∙ sym (tied_none x rights key beyond e)))
  greater above beyond differ Greater e = refl

-- what stands at a greater key stands behind it
row_behind : (x : KeyValue × RowValue) (rows : DumpRowsValue) (key : KeyValue) → key_cmp key x.0 ≡ Greater → row_with_key (x ∷ rows) key ≡ row_with_key rows key
row_behind x rows key e = ap (λ o. cond (is_eq o) (Some x.1) (row_with_key rows key)) e

rows_behind : (x : KeyValue × RowValue) (rows : DumpRowsValue) (key : KeyValue) → key_cmp key x.0 ≡ Greater → rows_past key (x ∷ rows) ≡ rows_past key rows
rows_behind x rows key e = ap (λ o. cond (is_lt o) (x ∷ rows_past key rows) (rows_past key rows)) e

longer : (source target : DumpRowsValue) (x : KeyValue × RowValue) (lefts rights : DumpRowsValue) → IsBehindSame source target (x ∷ lefts) (x ∷ rights) → IsBehindSame source target lefts rights
longer source target x lefts rights w =
    let above = w.left_rises.0 in
    let beyond = w.right_rises.0 in
    let is : (key : KeyValue) → Differ lefts rights key → key_cmp key x.0 ≡ Greater = λ key differ. greater x lefts rights key above beyond differ (key_cmp key x.0) refl in
    let more : (key : KeyValue) → Differ lefts rights key → Differ (x ∷ lefts) (x ∷ rights) key = λ key differ e. differ (sym (row_behind x lefts key (is key differ)) ∙ e ∙ row_behind x rights key (is key differ)) in
    record {
      same = λ e. w.same (ap (λ (l : DumpRowsValue). x ∷ l) e);
      first = λ key first. w.first key (first_behind x lefts rights key above beyond first);
      source_row = λ key differ. w.source_row key (more key differ) ∙ row_behind x lefts key (is key differ);
      target_row = λ key differ. w.target_row key (more key differ) ∙ row_behind x rights key (is key differ);
      source_behind = λ key differ. w.source_behind key (more key differ) ∙ rows_behind x lefts key (is key differ);
      target_behind = λ key differ. w.target_behind key (more key differ) ∙ rows_behind x rights key (is key differ);
      left_rises = w.left_rises.1;
      right_rises = w.right_rises.1;
    }

pub same_for_longer : (source target : DumpRowsValue) (x y : KeyValue × RowValue) (lefts rights : DumpRowsValue) → IsBehindSame source target (x ∷ lefts) (y ∷ rights) → x ≡ y → IsBehindSame source target lefts rights
same_for_longer source target x y lefts rights w same =
    longer source target x lefts rights (subst (λ (z : KeyValue × RowValue). IsBehindSame source target (x ∷ lefts) (z ∷ rights)) (sym same) w)
