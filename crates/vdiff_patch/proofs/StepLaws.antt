-- All differences of two sets of rows, step by step of a walk over both.
use Rattle.std.proofs.Common.{◌≡◌, ◌∙◌, List, [], ◌∷◌, ◌++◌, cond, true, false, not, refl, ap, Bool, Some, None, map}
use Rattle.std.proofs.lemmas.Cmp.{tied_itself}
use Rattle.std.specs.List.{AllByRecursion, filter}
use Rattle.std.specs.Prelude.{if◌then◌else◌}
use Rattle.std.specs.Ordering.{is_eq, is_lt, is_gt, ordering_reverse, eq_by_cmp}
use Rattle.std.specs.declared.cmp.Ordering.TheVariants.{Less, Greater}
use Rattle.list_laws.proofs.Fronts.{each}
use Rattle.pk_copy.specs.KeyOrder.{key_cmp}
use Rattle.pk_copy.specs.KeyOrderLaws.{key_cmp_total}
use Rattle.pk_copy.specs.KeyValue.{KeyValue}
use Rattle.target_tables.specs.Rising.{AreAbove, AreBelow}
use Rattle.vdiff.specs.Report.{row_eq}
use Rattle.dump.specs.DumpRowsValue.{RowValue, DumpRowsValue}
use Rattle.vdiff.proofs.ReportLaws.{none_at}
use Rattle.vdiff.specs.Differences.{Difference, rows_past}
use Rattle.vdiff_patch.specs.AllDifferences.{rows_before, of_target, of_source, differences_of}
use Rattle.vdiff_patch.specs.Patch.{Cell, with_cells, updated}

-- ---- filters and maps at a key, of rows at greater and at lesser keys

pub greater : (key other : KeyValue) → key_cmp other key ≡ Less → key_cmp key other ≡ Greater
greater key other less = key_cmp_total.antisymm key other ∙ ap ordering_reverse less

pub kept : (test : KeyValue × RowValue → Bool) (rows : DumpRowsValue) → AllByRecursion (λ row. test row ≡ true) rows → filter test rows ≡ rows
kept test [] all = refl
kept test (row ∷ rows) all = rw all.0 (ap (λ (l : DumpRowsValue). row ∷ l) (kept test rows all.1))

dropped : (test : KeyValue × RowValue → Bool) (rows : DumpRowsValue) → AllByRecursion (λ row. test row ≡ false) rows → filter test rows ≡ []
dropped test [] all = refl
dropped test (row ∷ rows) all = rw all.0 (dropped test rows all.1)

pub unmoved : (f : KeyValue × RowValue → KeyValue × RowValue) (rows : DumpRowsValue) → AllByRecursion (λ row. f row ≡ row) rows → map f rows ≡ rows
unmoved f [] all = refl
unmoved f (row ∷ rows) all = rw (all.0, unmoved f rows all.1) refl

-- what is true of rows at greater or lesser keys, by the order
pub above_are : (key : KeyValue) (P : KeyValue × RowValue → Type 0) → ((row : KeyValue × RowValue) → key_cmp key row.0 ≡ Less → P row) → (rows : DumpRowsValue) → AreAbove key_cmp key rows → AllByRecursion P rows
above_are key P is rows above = each (λ row. key_cmp key row.0 ≡ Less) P is rows above

pub below_are : (key : KeyValue) (P : KeyValue × RowValue → Type 0) → ((row : KeyValue × RowValue) → key_cmp key row.0 ≡ Greater → P row) → (rows : DumpRowsValue) → AreBelow key_cmp key rows → AllByRecursion P rows
below_are key P is rows below = each (λ row. key_cmp row.0 key ≡ Less) P (λ row less. is row (greater key row.0 less)) rows below

pub behind_all : (key : KeyValue) (rows : DumpRowsValue) → AreAbove key_cmp key rows → rows_past key rows ≡ rows
behind_all key rows above = kept _ rows (above_are key _ (λ row e. ap is_lt e) rows above)

module _ (key : KeyValue) (rows : DumpRowsValue) (above : AreAbove key_cmp key rows) where
  pub none_before : rows_before key rows ≡ []
  none_before = dropped _ rows (above_are key _ (λ row e. ap is_gt e) rows above)

  pub all_stay : filter (λ row. not (eq_by_cmp key_cmp key row.0)) rows ≡ rows
  all_stay = kept _ rows (above_are key _ (λ row e. ap (λ o. not (is_eq o)) e) rows above)

  pub none_updated : (cells : List Cell) → map (updated key cells) rows ≡ rows
  none_updated cells = unmoved (updated key cells) rows (above_are key _ (λ row e. ap (λ o. cond (is_eq o) (row.0, with_cells row.1 cells) row) e) rows above)

module _ (key : KeyValue) (done : DumpRowsValue) (below : AreBelow key_cmp key done) where
  pub all_before : rows_before key done ≡ done
  all_before = kept _ done (below_are key _ (λ row e. ap is_gt e) done below)

  pub none_past : rows_past key done ≡ []
  none_past = dropped _ done (below_are key _ (λ row e. ap is_lt e) done below)

  pub all_stay_below : filter (λ row. not (eq_by_cmp key_cmp key row.0)) done ≡ done
  all_stay_below = kept _ done (below_are key _ (λ row e. ap (λ o. not (is_eq o)) e) done below)

  pub none_updated_below : (cells : List Cell) → map (updated key cells) done ≡ done
  none_updated_below cells = unmoved (updated key cells) done (below_are key _ (λ row e. ap (λ o. cond (is_eq o) (row.0, with_cells row.1 cells) row) e) done below)

-- ---- one step of the differences

-- the source's first key is less than all of the target
pub source_alone : (x : KeyValue × RowValue) (lefts right : DumpRowsValue) → AreAbove key_cmp x.0 right → differences_of (x ∷ lefts) right ≡ record { key = x.0; source = Some x.1; target = None } ∷ differences_of lefts right
source_alone x lefts right above = rw (none_before x.0 right above, none_at x.0 right above, behind_all x.0 right above) refl

-- the target's first key is less than all of the source
pub target_alone : (left : DumpRowsValue) (y : KeyValue × RowValue) (rights : DumpRowsValue) → AreAbove key_cmp y.0 left → differences_of left (y ∷ rights) ≡ of_target y ∷ differences_of left rights
target_alone [] y rights above = refl
target_alone (x ∷ left) y rights above = rw (greater x.0 y.0 above.0) refl

-- both have the key
pub both_have : (key : KeyValue) (a b : RowValue) (lefts rights : DumpRowsValue) → AreAbove key_cmp key rights
    → differences_of ((key, a) ∷ lefts) ((key, b) ∷ rights) ≡ of_source (key, a) (Some b) ++ differences_of lefts rights
both_have key a b lefts rights above = rw (tied_itself key_cmp_total key, none_before key rights above, behind_all key rights above) refl

-- where a row of both is one the source's row is no difference
pub of_same : (key : KeyValue) (a b : RowValue) → row_eq a b ≡ true → of_source (key, a) (Some b) ≡ []
of_same key a b e =
    let one : Difference = record { key = key; source = Some a; target = Some b } in
    ap (λ (t : Bool). if t then [] else (one ∷ [])) e

pub of_other : (key : KeyValue) (a b : RowValue) → row_eq a b ≡ false → of_source (key, a) (Some b) ≡ record { key = key; source = Some a; target = Some b } ∷ []
of_other key a b e =
    let one : Difference = record { key = key; source = Some a; target = Some b } in
    ap (λ (t : Bool). if t then [] else (one ∷ [])) e
