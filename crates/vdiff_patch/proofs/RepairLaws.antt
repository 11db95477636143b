-- A patch, applied to the target's rows, gives the source's.
use Rattle.std.proofs.Common.{◌≡◌, ◌∙◌, ℕ, zero, suc, ◌+◌, ◌≤◌, List, [], ◌∷◌, ◌++◌, length, true, false, not, refl, sym, ap, subst, Bool, Ordering, Option, Some, append_assoc, append-nil, arith}
use Rattle.std.proofs.lemmas.List.{map-append, set_at, length-append}
use Rattle.std.proofs.lemmas.List.Elements.{filter-append}
use Rattle.std.proofs.lemmas.Cmp.{tied_itself}
use Rattle.std.specs.List.{AllByRecursion}
use Rattle.std.specs.Ordering.{is_lt, is_gt, ordering_reverse, eq_by_cmp}
use Rattle.std.specs.declared.cmp.Ordering.TheVariants.{Less, Equal, Greater}
use Rattle.pk_copy.specs.KeyOrder.{key_cmp}
use Rattle.pk_copy.specs.KeyOrderLaws.{key_cmp_total}
use Rattle.pk_copy.specs.KeyValue.{KeyValue}
use Rattle.target_tables.specs.Rising.{IsRising, AreAbove, AreBelow}
use Rattle.target_tables.proofs.Values.{absent}
use Rattle.vdiff.specs.Report.{column_eq, row_eq}
use Rattle.dump.specs.DumpRowsValue.{RowValue, DumpRowsValue}
use Rattle.vdiff.proofs.ReportLaws.{all_above, row_eq-Decides, column_eq-Decides}
use Rattle.vdiff_patch.proofs.StepLaws.{behind_all}
use Rattle.vdiff.proofs.DifferenceLaws.{Tie}
use Rattle.vdiff_patch.specs.Patch.{Cell, update, insert, delete, with_cells, updated, changed, patched, differing_from, patch_of}
use Rattle.vdiff_patch.proofs.StepLaws.{none_before, all_stay, none_updated, all_before, none_past, all_stay_below, none_updated_below, source_alone, target_alone, both_have, of_same, of_other}

-- ---- one change of the rows, behind rows that are as they are to be

module _ (done : DumpRowsValue) (key : KeyValue) (below : AreBelow key_cmp key done) where
  -- a row is put
  inserts : (row : RowValue) (right : DumpRowsValue) → AreAbove key_cmp key right → changed key (insert row) (done ++ right) ≡ Some (done ++ (key, row) ∷ right)
  inserts row right above =
      rw (
        absent key_cmp_total done right key key below above (tied_itself key_cmp_total key),
        filter-append (λ row. is_gt (key_cmp key row.0)) done right,
        filter-append (λ row. is_lt (key_cmp key row.0)) done right,
        all_before key done below,
        none_past key done below,
        none_before key right above,
        behind_all key right above,
        append-nil done,
      ) refl

  -- the row is taken away
  deletes : (row : RowValue) (right : DumpRowsValue) → AreAbove key_cmp key right → changed key delete (done ++ (key, row) ∷ right) ≡ Some (done ++ right)
  deletes row right above =
      rw (filter-append (λ row. not (eq_by_cmp key_cmp key row.0)) done ((key, row) ∷ right), all_stay_below key done below, tied_itself key_cmp_total key, all_stay key right above) refl

  -- values are written over its columns
  updates : (row : RowValue) (cells : List Cell) (right : DumpRowsValue) → AreAbove key_cmp key right → changed key (update cells) (done ++ (key, row) ∷ right) ≡ Some (done ++ (key, with_cells row cells) ∷ right)
  updates row cells right above =
      rw (map-append (updated key cells) done ((key, row) ∷ right), none_updated_below key done below cells, tied_itself key_cmp_total key, none_updated key right above cells) refl

-- ---- the values that differ, written over the row

-- one value more, the same as the other or written over it
over_one : (front : RowValue) (value other : Option (List ℕ)) (row there : RowValue)
    → with_cells ((front ++ value ∷ []) ++ there) (differing_from (length front + 1) row there) ≡ (front ++ value ∷ []) ++ row
    → (b : Bool) → column_eq value other ≡ b → with_cells (front ++ other ∷ there) (differing_from (length front) (value ∷ row) (other ∷ there)) ≡ front ++ value ∷ row
over_one front value other row there longer true e =
    let is : value ≡ other = (column_eq-Decides value other).0 e in
    rw e (ap (λ (l : RowValue). with_cells l (differing_from (length front + 1) row there)) (ap (λ v. front ++ v ∷ there) (sym is) ∙ sym (append_assoc front (value ∷ []) there)) ∙ longer ∙ append_assoc front (value ∷ []) row)
over_one front value other row there longer false e =
    rw e (ap (λ (l : RowValue). with_cells l (differing_from (length front + 1) row there)) (set_at front other there value (length front) refl ∙ sym (append_assoc front (value ∷ []) there)) ∙ longer ∙ append_assoc front (value ∷ []) row)

over_from : (row front there : RowValue) → length row ≡ length there → with_cells (front ++ there) (differing_from (length front) row there) ≡ front ++ row
over_from [] front [] same = refl
over_from [] front (other ∷ there) same = absurd (omega (arith, same))
over_from (value ∷ row) front [] same = absurd (omega (arith, same))
over_from (value ∷ row) front (other ∷ there) same =
    let more : length front + 1 ≡ length (front ++ value ∷ []) = omega (arith, length-append front (value ∷ [])) in
    let fewer : length row ≡ length there = omega (arith, same) in
    over_one front value other row there
    (ap (λ i. with_cells ((front ++ value ∷ []) ++ there) (differing_from i row there)) more ∙ over_from row (front ++ value ∷ []) there fewer)
    (column_eq value other) refl

pub over_row : (row there : RowValue) → length row ≡ length there → with_cells there (differing_from 0 row there) ≡ row
over_row row there same = over_from row [] there same

-- ---- rows in order, of which those in front are as they are to be

below_row : (front : DumpRowsValue) (x : KeyValue × RowValue) (back : DumpRowsValue) → IsRising key_cmp (front ++ x ∷ back) → AreBelow key_cmp x.0 front
below_row [] x back rising = tt
below_row (e ∷ front) x back rising = (at_place e x front back rising.0, below_row front x back rising.1)
  where
    at_place : (e x : KeyValue × RowValue) (front back : DumpRowsValue) → AreAbove key_cmp e.0 (front ++ x ∷ back) → key_cmp e.0 x.0 ≡ Less
    at_place e x [] back above = above.0
    at_place e x (f ∷ front) back above = at_place e x front back above.1

back_rises : (front back : DumpRowsValue) → IsRising key_cmp (front ++ back) → IsRising key_cmp back
back_rises [] back rising = rising
back_rises (e ∷ front) back rising = back_rises front back rising.1

-- a row between lesser and greater ones
placed : (front : DumpRowsValue) (x : KeyValue × RowValue) (back : DumpRowsValue) → AreBelow key_cmp x.0 front → AreAbove key_cmp x.0 back → IsRising key_cmp (front ++ back) → IsRising key_cmp (front ++ x ∷ back)
placed [] x back below above rising = (above, rising)
placed (e ∷ front) x back below above rising = (put e x front back below.0 rising.0, placed front x back below.1 above rising.1)
  where
    put : (e x : KeyValue × RowValue) (front back : DumpRowsValue) → key_cmp e.0 x.0 ≡ Less → AreAbove key_cmp e.0 (front ++ back) → AreAbove key_cmp e.0 (front ++ x ∷ back)
    put e x [] back less above = (less, above)
    put e x (f ∷ front) back less above = (above.0, put e x front back less above.1)

-- a row less
without : (front : DumpRowsValue) (x : KeyValue × RowValue) (back : DumpRowsValue) → IsRising key_cmp (front ++ x ∷ back) → IsRising key_cmp (front ++ back)
without [] x back rising = rising.1
without (e ∷ front) x back rising = (taken e x front back rising.0, without front x back rising.1)
  where
    taken : (e x : KeyValue × RowValue) (front back : DumpRowsValue) → AreAbove key_cmp e.0 (front ++ x ∷ back) → AreAbove key_cmp e.0 (front ++ back)
    taken e x [] back above = above.1
    taken e x (f ∷ front) back above = (above.0, taken e x front back above.1)

-- ---- the whole

-- of each table the rows of the two have as many columns
pub record HaveWidths (width : ℕ → ℕ) (rows : DumpRowsValue) : Type 0 where
  pub each_row : AllByRecursion (λ row. length row.1 ≡ width row.0.table) rows

rest_have : (width : ℕ → ℕ) (x : KeyValue × RowValue) (rows : DumpRowsValue) → HaveWidths width (x ∷ rows) → HaveWidths width rows
rest_have width x rows have = record { each_row = have.each_row.1 }

-- the changes of a patch that are left, made where the rows in front are as they are to be
abbrev Repairs : DumpRowsValue → DumpRowsValue → DumpRowsValue → Type 0
Repairs done left right = patched (done ++ right) (patch_of left right) ≡ Some (done ++ left)

module _ (done : DumpRowsValue) where
  repairs_insert : (x : KeyValue × RowValue) (lefts right : DumpRowsValue) → AreBelow key_cmp x.0 done → AreAbove key_cmp x.0 right → Repairs (done ++ x ∷ []) lefts right → Repairs done (x ∷ lefts) right
  repairs_insert x lefts right below above others =
      rw (source_alone x lefts right above, inserts done x.0 below x.1 right above)
      (ap (λ (l : DumpRowsValue). patched l (patch_of lefts right)) (sym (append_assoc done (x ∷ []) right)) ∙ others ∙ ap Some (append_assoc done (x ∷ []) lefts))

  repairs_delete : (left : DumpRowsValue) (y : KeyValue × RowValue) (rights : DumpRowsValue) → AreBelow key_cmp y.0 done → AreAbove key_cmp y.0 left → AreAbove key_cmp y.0 rights → Repairs done left rights → Repairs done left (y ∷ rights)
  repairs_delete left y rights below above beyond others =
      rw (target_alone left y rights above, deletes done y.0 below y.1 rights beyond) others

  repairs_both : (key : KeyValue) (a b : RowValue) (lefts rights : DumpRowsValue) → AreBelow key_cmp key done → AreAbove key_cmp key rights → length a ≡ length b
      → Repairs (done ++ (key, a) ∷ []) lefts rights → (r : Bool) → row_eq a b ≡ r → Repairs done ((key, a) ∷ lefts) ((key, b) ∷ rights)
  repairs_both key a b lefts rights below beyond widths others true e =
      let is : a ≡ b = (row_eq-Decides a b).0 e in
      rw (both_have key a b lefts rights beyond, of_same key a b e)
      (ap (λ (l : DumpRowsValue). patched l (patch_of lefts rights)) (ap (λ (row : RowValue). done ++ (key, row) ∷ rights) (sym is) ∙ sym (append_assoc done ((key, a) ∷ []) rights)) ∙ others ∙ ap Some (append_assoc done ((key, a) ∷ []) lefts))
  repairs_both key a b lefts rights below beyond widths others false e =
      rw (both_have key a b lefts rights beyond, of_other key a b e, updates done key below b (differing_from 0 a b) rights beyond, over_row a b widths)
      (ap (λ (l : DumpRowsValue). patched l (patch_of lefts rights)) (sym (append_assoc done ((key, a) ∷ []) rights)) ∙ others ∙ ap Some (append_assoc done ((key, a) ∷ []) lefts))

-- what is known of the rows at a step
record AreStill (width : ℕ → ℕ) (done left right : DumpRowsValue) : Type 0 where
  pub left_rises : IsRising key_cmp (done ++ left)
  pub right_rises : IsRising key_cmp (done ++ right)
  pub left_widths : HaveWidths width left
  pub right_widths : HaveWidths width right

module _ (width : ℕ → ℕ) (done : DumpRowsValue) where
  still_insert : (x : KeyValue × RowValue) (lefts right : DumpRowsValue) → AreAbove key_cmp x.0 right → AreStill width done (x ∷ lefts) right → AreStill width (done ++ x ∷ []) lefts right
  still_insert x lefts right above still = record {
    left_rises = subst (IsRising key_cmp) (sym (append_assoc done (x ∷ []) lefts)) still.left_rises;
    right_rises = subst (IsRising key_cmp) (sym (append_assoc done (x ∷ []) right)) (placed done x right (below_row done x lefts still.left_rises) above still.right_rises);
    left_widths = rest_have width x lefts still.left_widths;
    right_widths = still.right_widths;
  }

  still_delete : (left : DumpRowsValue) (y : KeyValue × RowValue) (rights : DumpRowsValue) → AreStill width done left (y ∷ rights) → AreStill width done left rights
  still_delete left y rights still = record {
    left_rises = still.left_rises;
    right_rises = without done y rights still.right_rises;
    left_widths = still.left_widths;
    right_widths = rest_have width y rights still.right_widths;
  }

  still_both : (x y : KeyValue × RowValue) (lefts rights : DumpRowsValue) → AreAbove key_cmp x.0 rights → AreStill width done (x ∷ lefts) (y ∷ rights) → AreStill width (done ++ x ∷ []) lefts rights
  still_both x y lefts rights above still = record {
    left_rises = subst (IsRising key_cmp) (sym (append_assoc done (x ∷ []) lefts)) still.left_rises;
    right_rises = subst (IsRising key_cmp) (sym (append_assoc done (x ∷ []) rights)) (placed done x rights (below_row done x lefts still.left_rises) above (without done y rights still.right_rises));
    left_widths = rest_have width x lefts still.left_widths;
    right_widths = rest_have width y rights still.right_widths;
  }

-- by the order of the first keys, where it repairs each pair of fewer rows
by_keys : (width : ℕ → ℕ) (tie : Tie) (done : DumpRowsValue) (x y : KeyValue × RowValue) (lefts rights : DumpRowsValue) → AreStill width done (x ∷ lefts) (y ∷ rights)
    → (AreStill width (done ++ x ∷ []) lefts (y ∷ rights) → Repairs (done ++ x ∷ []) lefts (y ∷ rights))
    → (AreStill width done (x ∷ lefts) rights → Repairs done (x ∷ lefts) rights)
    → (AreStill width (done ++ x ∷ []) lefts rights → Repairs (done ++ x ∷ []) lefts rights)
    → (o : Ordering) → key_cmp x.0 y.0 ≡ o → Repairs done (x ∷ lefts) (y ∷ rights)
by_keys width tie done x y lefts rights still insert_then delete_then both_then Less e =
    let above : AreAbove key_cmp x.0 (y ∷ rights) = all_above x.0 y rights (back_rises done (y ∷ rights) still.right_rises) e in
    repairs_insert done x lefts (y ∷ rights) (below_row done x lefts still.left_rises) above (insert_then (still_insert width done x lefts (y ∷ rights) above still))
by_keys width tie done x y lefts rights still insert_then delete_then both_then Greater e =
    let less : key_cmp y.0 x.0 ≡ Less = key_cmp_total.antisymm y.0 x.0 ∙ ap ordering_reverse e in
    let above : AreAbove key_cmp y.0 (x ∷ lefts) = all_above y.0 x lefts (back_rises done (x ∷ lefts) still.left_rises) less in
    repairs_delete done (x ∷ lefts) y rights (below_row done y rights still.right_rises) above (back_rises done (y ∷ rights) still.right_rises).0 (delete_then (still_delete width done (x ∷ lefts) y rights still))
by_keys width tie done x y lefts rights still insert_then delete_then both_then Equal e =
    let same : x.0 ≡ y.0 = tie x.0 y.0 e in
    let beyond : AreAbove key_cmp x.0 rights = subst (λ (key : KeyValue). AreAbove key_cmp key rights) (sym same) (back_rises done (y ∷ rights) still.right_rises).0 in
    let widths : length x.1 ≡ length y.1 = still.left_widths.each_row.0 ∙ ap (λ (key : KeyValue). width key.table) same ∙ sym still.right_widths.each_row.0 in
    subst (λ (key : KeyValue). Repairs done (x ∷ lefts) ((key, y.1) ∷ rights)) same
    (repairs_both done x.0 x.1 y.1 lefts rights (below_row done x lefts still.left_rises) beyond widths (both_then (still_both width done x y lefts rights beyond still)) (row_eq x.1 y.1) refl)

-- by the rows that are left, of which there are no more than n
repairs : (n : ℕ) (width : ℕ → ℕ) (tie : Tie) (done left right : DumpRowsValue) → length left + length right ≤ n → AreStill width done left right → Repairs done left right
repairs n width tie done [] [] le still = refl
repairs zero width tie done (x ∷ lefts) right le still = absurd (omega arith)
repairs zero width tie done [] (y ∷ rights) le still = absurd (omega arith)
repairs (suc n) width tie done [] (y ∷ rights) le still =
    repairs_delete done [] y rights (below_row done y rights still.right_rises) tt (back_rises done (y ∷ rights) still.right_rises).0 (repairs n width tie done [] rights (omega arith) (still_delete width done [] y rights still))
repairs (suc n) width tie done (x ∷ lefts) [] le still =
    repairs_insert done x lefts [] (below_row done x lefts still.left_rises) tt (repairs n width tie (done ++ x ∷ []) lefts [] (omega arith) (still_insert width done x lefts [] tt still))
repairs (suc n) width tie done (x ∷ lefts) (y ∷ rights) le still =
    by_keys width tie done x y lefts rights still
    (λ s. repairs n width tie (done ++ x ∷ []) lefts (y ∷ rights) (omega arith) s)
    (λ s. repairs n width tie done (x ∷ lefts) rights (omega arith) s)
    (λ s. repairs n width tie (done ++ x ∷ []) lefts rights (omega arith) s)
    (key_cmp x.0 y.0) refl

-- a patch, applied to the target's rows, gives the source's
pub patch_repairs : (width : ℕ → ℕ) → Tie → (source target : DumpRowsValue) → IsRising key_cmp source → IsRising key_cmp target → HaveWidths width source → HaveWidths width target → patched target (patch_of source target) ≡ Some source
patch_repairs width tie source target rising rises widths others =
    repairs (length source + length target) width tie [] source target (omega arith) (record { left_rises = rising; right_rises = rises; left_widths = widths; right_widths = others })
