-- One map made of two: the parts of some streams, and the entries of both by rising key.
use Rattle.std.proofs.Common.{◌≡◌, ℕ, suc, ◌≤◌, Bool, true, false, cond, List, [], ◌∷◌, ◌++◌, length, Option, Some, None, MatchOption, Ordering, refl, sym, ap, subst, ◌∙◌, arith}
use Rattle.std.proofs.lemmas.Cmp.{tied_back}
use Rattle.std.specs.declared.cmp.Ordering.TheVariants.{Less, Equal, Greater}
use Rattle.std.specs.Cmp.{IsTotalOrder, Equal-is}
use Rattle.std.specs.List.{AllByRecursion}
use Rattle.std.specs.Option.{option_or}
use Rattle.std.specs.Ordering.{ordering_reverse, is_eq, eq_by_cmp}
use Rattle.list_laws.proofs.Fronts.{each}
use Rattle.list_laws.proofs.Choices.{or_assoc}
use Rattle.target_tables.specs.Contents.{value_at}
use Rattle.target_tables.specs.Pages.{entries_of}
use Rattle.target_tables.specs.Rising.{IsRising, AreAbove, AreBelow}
use Rattle.target_tables.specs.declared.merge_side.MergeSide.{MergeSide}
use Rattle.target_tables.specs.declared.merge_side.MergeSide.TheVariants.{First, Second}
use Rattle.target_tables.specs.Merged.{comes_from, part_of, of_part, AreMerged}
use Rattle.target_tables.specs.Kept.{IsFirstKey, IsLesser, TakesLesser, AreMixed}
use Rattle.target_tables.proofs.Order.{all_join}
use Rattle.target_tables.proofs.Values.{lookup-append, none_above}

-- ---- the parts

module _ {K R : Type 0} (cmp : K → K → Ordering) (test : ℕ → Bool) where
  above_part : (k : K) (rows : List (K × (ℕ × R))) → AreAbove cmp k rows → AreAbove cmp k (part_of test rows)
  above_part k [] h = tt
  above_part k (e ∷ rows) h = by (above_part k rows h.1) (test e.1.0)
    where
      by : AreAbove cmp k (part_of test rows) → (b : Bool) → AreAbove cmp k (cond b (e ∷ part_of test rows) (part_of test rows))
      by rest true = (h.0, rest)
      by rest false = rest

  pub rising_part : (rows : List (K × (ℕ × R))) → IsRising cmp rows → IsRising cmp (part_of test rows)
  rising_part [] h = tt
  rising_part (e ∷ rows) h = by (rising_part rows h.1) (test e.1.0)
    where
      by : IsRising cmp (part_of test rows) → (b : Bool) → IsRising cmp (cond b (e ∷ part_of test rows) (part_of test rows))
      by rest true = (above_part e.0 rows h.0, rest)
      by rest false = rest

module _ {K R : Type 0} {cmp : K → K → Ordering} (o : IsTotalOrder cmp) (test : ℕ → Bool) where
  pub value_in_part : (rows : List (K × (ℕ × R))) (q : K) → IsRising cmp rows → value_at cmp (part_of test rows) q ≡ of_part test (value_at cmp rows q)
  value_in_part [] q h = refl
  value_in_part (e ∷ rows) q h = by (value_in_part rows q h.1) (eq_by_cmp cmp q e.0) refl (test e.1.0) refl
    where
      opened : (own : Bool) → value_at cmp (cond own (e ∷ part_of test rows) (part_of test rows)) q ≡ cond own (cond (eq_by_cmp cmp q e.0) (Some e.1) (value_at cmp (part_of test rows) q)) (value_at cmp (part_of test rows) q)
      opened true = refl
      opened false = refl

      nothing_else : eq_by_cmp cmp q e.0 ≡ true → value_at cmp rows q ≡ None
      nothing_else same = none_above o e.0 q rows (tied_back o q e.0 ((Equal-is (cmp q e.0)).0 same)) h.0

      by : value_at cmp (part_of test rows) q ≡ of_part test (value_at cmp rows q) → (key : Bool) → eq_by_cmp cmp q e.0 ≡ key → (own : Bool) → test e.1.0 ≡ own
          → value_at cmp (part_of test (e ∷ rows)) q ≡ of_part test (value_at cmp (e ∷ rows) q)
      by rest true same true mine =
          opened (test e.1.0)
          ∙ ap (λ own. cond own (cond (eq_by_cmp cmp q e.0) (Some e.1) (value_at cmp (part_of test rows) q)) (value_at cmp (part_of test rows) q)) mine
          ∙ ap (λ key. cond key (Some e.1) (value_at cmp (part_of test rows) q)) same
          ∙ sym (ap (λ own. cond own (Some e.1) None) mine)
          ∙ sym (ap (λ key. of_part test (cond key (Some e.1) (value_at cmp rows q))) same)
      by rest true same false mine =
          opened (test e.1.0)
          ∙ ap (λ own. cond own (cond (eq_by_cmp cmp q e.0) (Some e.1) (value_at cmp (part_of test rows) q)) (value_at cmp (part_of test rows) q)) mine
          ∙ rest
          ∙ ap (of_part test) (nothing_else same)
          ∙ sym (ap (λ own. cond own (Some e.1) None) mine)
          ∙ sym (ap (λ key. of_part test (cond key (Some e.1) (value_at cmp rows q))) same)
      by rest false other true mine =
          opened (test e.1.0)
          ∙ ap (λ own. cond own (cond (eq_by_cmp cmp q e.0) (Some e.1) (value_at cmp (part_of test rows) q)) (value_at cmp (part_of test rows) q)) mine
          ∙ ap (λ key. cond key (Some e.1) (value_at cmp (part_of test rows) q)) other
          ∙ rest
          ∙ sym (ap (λ key. of_part test (cond key (Some e.1) (value_at cmp rows q))) other)
      by rest false other false mine =
          opened (test e.1.0)
          ∙ ap (λ own. cond own (cond (eq_by_cmp cmp q e.0) (Some e.1) (value_at cmp (part_of test rows) q)) (value_at cmp (part_of test rows) q)) mine
          ∙ rest
          ∙ sym (ap (λ key. of_part test (cond key (Some e.1) (value_at cmp rows q))) other)

-- ---- the lesser of two first entries

module _ {K R : Type 0} {cmp : K → K → Ordering} (o : IsTotalOrder cmp) where
  above_by : (d k : K) (es : List (K × (ℕ × R))) → cmp d k ≡ Less → AreAbove cmp k es → AreAbove cmp d es
  above_by d k es less h = each (λ e. cmp k e.0 ≡ Less) (λ e. cmp d e.0 ≡ Less) (λ e h. o.trans d k e.0 less h) es h

  above_tied : (d k : K) (es : List (K × (ℕ × R))) → cmp d k ≡ Equal → AreAbove cmp k es → AreAbove cmp d es
  above_tied d k es same h = each (λ e. cmp k e.0 ≡ Less) (λ e. cmp d e.0 ≡ Less) (λ e h. o.congr d k e.0 same ∙ h) es h

  -- all entries of a rising list lie above what is less than the first
  pub above_first : (d k : K) (es : List (K × (ℕ × R))) → IsFirstKey k es → IsRising cmp es → cmp d k ≡ Less → AreAbove cmp d es
  above_first d k [] first rising less = tt
  above_first d k (e ∷ es) first rising less = let l : cmp d e.0 ≡ Less = sym (ap (cmp d) first) ∙ less in (l, above_by d e.0 es l rising.0)

  values_first : (e : K × (ℕ × R)) (left rest : List (K × (ℕ × R))) (k : K)
      → option_or (value_at cmp (e ∷ left) k) (value_at cmp rest k) ≡ option_or (value_at cmp (e ∷ []) k) (option_or (value_at cmp left k) (value_at cmp rest k))
  values_first e left rest k =
      elim (eq_by_cmp cmp k e.0) as (λ b. option_or (cond b (Some e.1) (value_at cmp left k)) (value_at cmp rest k) ≡ option_or (cond b (Some e.1) None) (option_or (value_at cmp left k) (value_at cmp rest k))) [ true ↦ refl | false ↦ refl ]

  -- the first list's entry is the lesser one
  pub lesser_first : (one other left : List (K × (ℕ × R))) (e : K × (ℕ × R)) → one ≡ e ∷ left → IsRising cmp one → AreAbove cmp e.0 other → IsLesser cmp one other e left other
  lesser_first one other left e is rising above =
      subst (λ (es : List (K × (ℕ × R))). IsLesser cmp es other e left other) (sym is)
      (record {
        above = (subst (IsRising cmp) is rising).0;
        beside = above;
        behind = λ d h _. h.0;
        fewer = omega arith;
        values = values_first e left other;
      })

  -- the second list's entry is
  pub lesser_second : (one other rest : List (K × (ℕ × R))) (e : K × (ℕ × R)) → other ≡ e ∷ rest → IsRising cmp other → AreAbove cmp e.0 one → IsLesser cmp one other e one rest
  lesser_second one other rest e is rising above =
      subst (λ (es : List (K × (ℕ × R))). IsLesser cmp one es e one rest) (sym is)
      (record {
        above = above;
        beside = (subst (IsRising cmp) is rising).0;
        behind = λ d _ h. h.0;
        fewer = omega arith;
        values = λ k. by k (eq_by_cmp cmp k e.0) refl;
      })
    where
      by : (k : K) (b : Bool) → eq_by_cmp cmp k e.0 ≡ b
          → option_or (value_at cmp one k) (value_at cmp (e ∷ rest) k) ≡ option_or (value_at cmp (e ∷ []) k) (option_or (value_at cmp one k) (value_at cmp rest k))
      by k true same =
          let none : value_at cmp one k ≡ None = none_above o e.0 k one (tied_back o k e.0 ((Equal-is (cmp k e.0)).0 same)) above in
          ap (λ (v : Option (ℕ × R)). option_or v (value_at cmp (e ∷ rest) k)) none
          ∙ ap (λ b. cond b (Some e.1) (value_at cmp rest k)) same
          ∙ sym (ap (λ b. option_or (cond b (Some e.1) None) (option_or (value_at cmp one k) (value_at cmp rest k))) same)
      by k false differs =
          ap (λ b. option_or (value_at cmp one k) (cond b (Some e.1) (value_at cmp rest k))) differs
          ∙ sym (ap (λ b. option_or (cond b (Some e.1) None) (option_or (value_at cmp one k) (value_at cmp rest k))) differs)

  -- both have one key, and the second's entry goes
  pub lesser_both : (one other left rest : List (K × (ℕ × R))) (e f : K × (ℕ × R)) → one ≡ e ∷ left → other ≡ f ∷ rest → IsRising cmp one → IsRising cmp other → cmp e.0 f.0 ≡ Equal
      → IsLesser cmp one other e left rest
  lesser_both one other left rest e f is are rising also same =
      subst (λ (es : List (K × (ℕ × R))). IsLesser cmp es other e left rest) (sym is)
      (subst (λ (fs : List (K × (ℕ × R))). IsLesser cmp (e ∷ left) fs e left rest) (sym are)
      (record {
        above = (subst (IsRising cmp) is rising).0;
        beside = above_tied e.0 f.0 rest same (subst (IsRising cmp) are also).0;
        behind = λ d h _. h.0;
        fewer = omega arith;
        values = λ k. by k (eq_by_cmp cmp k e.0) refl;
      }))
    where
      tie : (k : K) → eq_by_cmp cmp k f.0 ≡ eq_by_cmp cmp k e.0
      tie k = ap is_eq (o.antisymm k f.0 ∙ ap ordering_reverse (sym (o.congr e.0 f.0 k same)) ∙ sym (o.antisymm k e.0))

      by : (k : K) (b : Bool) → eq_by_cmp cmp k e.0 ≡ b
          → option_or (value_at cmp (e ∷ left) k) (value_at cmp (f ∷ rest) k) ≡ option_or (value_at cmp (e ∷ []) k) (option_or (value_at cmp left k) (value_at cmp rest k))
      by k true is_key =
          ap (λ b. option_or (cond b (Some e.1) (value_at cmp left k)) (value_at cmp (f ∷ rest) k)) is_key
          ∙ sym (ap (λ b. option_or (cond b (Some e.1) None) (option_or (value_at cmp left k) (value_at cmp rest k))) is_key)
      by k false differs =
          ap (λ b. option_or (cond b (Some e.1) (value_at cmp left k)) (value_at cmp (f ∷ rest) k)) differs
          ∙ ap (λ b. option_or (value_at cmp left k) (cond b (Some f.1) (value_at cmp rest k))) (tie k ∙ differs)
          ∙ sym (ap (λ b. option_or (cond b (Some e.1) None) (option_or (value_at cmp left k) (value_at cmp rest k))) differs)

module _ {K R : Type 0} {cmp : K → K → Ordering} (o : IsTotalOrder cmp) where
  -- nothing is left of the first list
  pub took_rest : (one other rest : List (K × (ℕ × R))) (r : Option (K × (ℕ × R))) → one ≡ [] → IsRising cmp other → MatchOption r ((other ≡ []) × (rest ≡ [])) (λ e. other ≡ e ∷ rest)
      → TakesLesser cmp one other r one rest
  took_rest one other rest None empty rising h = (empty, h.0, empty, h.1)
  took_rest one other rest (Some e) empty rising h = lesser_second o one other rest e h rising (subst (AreAbove cmp e.0) (sym empty) tt)

  -- nothing is left of the second list
  pub took_one : (one other left : List (K × (ℕ × R))) (key : K) (r : Option (K × (ℕ × R))) → IsFirstKey key one → other ≡ [] → IsRising cmp one
      → MatchOption r ((one ≡ []) × (left ≡ [])) (λ e. one ≡ e ∷ left) → TakesLesser cmp one other r left other
  took_one one other left key None first empty rising h = absurd (subst (IsFirstKey key) h.0 first)
  took_one one other left key (Some e) first empty rising h = lesser_first o one other left e h rising (subst (AreAbove cmp e.0) (sym empty) tt)

  module _ (one other : List (K × (ℕ × R))) (key second : K) (first : IsFirstKey key one) (also : IsFirstKey second other) (rising : IsRising cmp one) (rises : IsRising cmp other) where
    pub took_first : (left : List (K × (ℕ × R))) (r : Option (K × (ℕ × R))) → cmp key second ≡ Less → MatchOption r ((one ≡ []) × (left ≡ [])) (λ e. one ≡ e ∷ left)
        → TakesLesser cmp one other r left other
    took_first left None less h = absurd (subst (IsFirstKey key) h.0 first)
    took_first left (Some e) less h =
        let is : key ≡ e.0 = subst (IsFirstKey key) h first in
        lesser_first o one other left e h rising (above_first o e.0 second other also rises (sym (ap (λ k. cmp k second) is) ∙ less))

    pub took_second : (rest : List (K × (ℕ × R))) (r : Option (K × (ℕ × R))) → cmp key second ≡ Greater → MatchOption r ((other ≡ []) × (rest ≡ [])) (λ e. other ≡ e ∷ rest)
        → TakesLesser cmp one other r one rest
    took_second rest None greater h = absurd (subst (IsFirstKey second) h.0 also)
    took_second rest (Some e) greater h =
        let is : second ≡ e.0 = subst (IsFirstKey second) h also in
        let less : cmp second key ≡ Less = o.antisymm second key ∙ ap ordering_reverse greater in
        lesser_second o one other rest e h rises (above_first o e.0 key one first rising (sym (ap (λ k. cmp k key) is) ∙ less))

    pub took_both : (left rest : List (K × (ℕ × R))) (r s : Option (K × (ℕ × R))) → cmp key second ≡ Equal → MatchOption r ((one ≡ []) × (left ≡ [])) (λ e. one ≡ e ∷ left)
        → MatchOption s ((other ≡ []) × (rest ≡ [])) (λ e. other ≡ e ∷ rest) → TakesLesser cmp one other r left rest
    took_both left rest None s same h k = absurd (subst (IsFirstKey key) h.0 first)
    took_both left rest (Some e) None same h k = absurd (subst (IsFirstKey second) k.0 also)
    took_both left rest (Some e) (Some f) same h k =
        let is : key ≡ e.0 = subst (IsFirstKey key) h first in
        let are : second ≡ f.0 = subst (IsFirstKey second) k also in
        lesser_both o one other left rest e f h k rising rises (sym (ap (λ k. cmp k second) is ∙ ap (cmp e.0) are) ∙ same)

-- ---- all entries of two lists

-- what is done lies before what is left of both, and with it has what both had
pub record Mixes {K R : Type 0} (cmp : K → K → Ordering) (one other done left rest : List (K × (ℕ × R))) : Type 0 where
  pub behind : AllByRecursion (λ d. AreAbove cmp d.0 left × AreAbove cmp d.0 rest) done
  pub values : (k : K) → option_or (value_at cmp done k) (option_or (value_at cmp left k) (value_at cmp rest k)) ≡ option_or (value_at cmp one k) (value_at cmp other k)

module _ {K R : Type 0} {cmp : K → K → Ordering} (o : IsTotalOrder cmp) where
  pub mixes_none : (one other done : List (K × (ℕ × R))) → done ≡ [] → Mixes cmp one other done one other
  mixes_none one other done is = subst (λ (es : List (K × (ℕ × R))). Mixes cmp one other es one other) (sym is) (record { behind = tt; values = λ k. refl })

  module _ (one other done left rest next more : List (K × (ℕ × R))) (e : K × (ℕ × R)) (h : Mixes cmp one other done left rest) (lesser : IsLesser cmp left rest e next more) where
    pub below_lesser : AreBelow cmp e.0 done
    below_lesser = each (λ d. AreAbove cmp d.0 left × AreAbove cmp d.0 rest) (λ d. cmp d.0 e.0 ≡ Less) (λ d both. lesser.behind d.0 both.0 both.1) done h.behind

    pub mixes_on : Mixes cmp one other (done ++ e ∷ []) next more
    mixes_on = record {
      behind = all_join (λ d. AreAbove cmp d.0 next × AreAbove cmp d.0 more) done (e ∷ [])
          (each (λ d. cmp d.0 e.0 ≡ Less) (λ d. AreAbove cmp d.0 next × AreAbove cmp d.0 more) (λ d less. (above_by o d.0 e.0 next less lesser.above, above_by o d.0 e.0 more less lesser.beside)) done below_lesser)
          ((lesser.above, lesser.beside), tt);
      values = λ k.
          ap (λ (v : Option (ℕ × R)). option_or v (option_or (value_at cmp next k) (value_at cmp more k))) (lookup-append (eq_by_cmp cmp k) done (e ∷ []))
          ∙ or_assoc (value_at cmp done k) (value_at cmp (e ∷ []) k) (option_or (value_at cmp next k) (value_at cmp more k))
          ∙ ap (option_or (value_at cmp done k)) (sym (lesser.values k))
          ∙ h.values k;
    }

  or_nothing : (v : Option (ℕ × R)) → option_or v None ≡ v
  or_nothing None = refl
  or_nothing (Some x) = refl

  pub mixed_all : (one other done left rest : List (K × (ℕ × R))) → Mixes cmp one other done left rest → left ≡ [] → rest ≡ [] → IsRising cmp done → AreMixed cmp one other done
  mixed_all one other done left rest h empty none rising = record {
    rising = rising;
    values = λ k.
        sym (or_nothing (value_at cmp done k))
        ∙ ap (λ (es : List (K × (ℕ × R))). option_or (value_at cmp done k) (option_or (value_at cmp es k) None)) (sym empty)
        ∙ ap (λ (es : List (K × (ℕ × R))). option_or (value_at cmp done k) (option_or (value_at cmp left k) (value_at cmp es k))) (sym none)
        ∙ h.values k;
  }

  pub merged_parts : (sides : List MergeSide) (one other parts other_parts merged : List (K × (ℕ × R))) → IsRising cmp one → IsRising cmp other
      → parts ≡ part_of (comes_from sides First) one → other_parts ≡ part_of (comes_from sides Second) other → AreMixed cmp parts other_parts merged → AreMerged cmp sides one other merged
  merged_parts sides one other parts other_parts merged rising also are others h = record {
    rising = h.rising;
    values = λ k.
        h.values k
        ∙ ap (λ (es : List (K × (ℕ × R))). option_or (value_at cmp es k) (value_at cmp other_parts k)) are
        ∙ ap (λ (es : List (K × (ℕ × R))). option_or (value_at cmp (part_of (comes_from sides First) one) k) (value_at cmp es k)) others
        ∙ ap (λ (v : Option (ℕ × R)). option_or v (value_at cmp (part_of (comes_from sides Second) other) k)) (value_in_part o (comes_from sides First) one k rising)
        ∙ ap (option_or (of_part (comes_from sides First) (value_at cmp one k))) (value_in_part o (comes_from sides Second) other k also);
  }

-- ---- entries that are taken out of pages

module _ {X : Type 0} where
  -- the first entry of the next page, where those of the one before are all taken
  pub popped : (now es page : List X) (pages rest : List (List X)) (old left : List X) (r : Option X) → es ++ entries_of pages ≡ now → es ≡ [] → pages ≡ page ∷ rest → old ≡ page → 1 ≤ length page
      → MatchOption r ((old ≡ []) × (left ≡ [])) (λ x. old ≡ x ∷ left) → MatchOption r ((now ≡ []) × (left ++ entries_of rest ≡ [])) (λ x. now ≡ x ∷ (left ++ entries_of rest))
  popped now es page pages rest old left None is none first same some h =
      let size : length page ≡ 0 = ap length (sym same ∙ h.0) in
      absurd (omega (arith, size, some))
  popped now es page pages rest old left (Some x) is none first same some h =
      sym is
      ∙ ap (λ (l : List X). l ++ entries_of pages) none
      ∙ ap (λ (l : List (List X)). entries_of l) first
      ∙ ap (λ (l : List X). l ++ entries_of rest) (sym same ∙ h)

-- ---- how many entries a part has

module _ {K R : Type 0} (test : ℕ → Bool) where
  pub part_most : (rows : List (K × (ℕ × R))) → length (part_of test rows) ≤ length rows
  part_most [] = omega arith
  part_most (e ∷ rows) = by (part_most rows) (test e.1.0)
    where
      by : length (part_of test rows) ≤ length rows → (b : Bool) → length (cond b (e ∷ part_of test rows) (part_of test rows)) ≤ suc (length rows)
      by rest true = omega (arith, rest)
      by rest false = omega (arith, rest)

  -- one entry of the part more, or none
  pub part_in : (e : K × (ℕ × R)) (rows : List (K × (ℕ × R))) → test e.1.0 ≡ true → length (part_of test (e ∷ rows)) ≡ suc (length (part_of test rows))
  part_in e rows h = ap (λ b. length (cond b (e ∷ part_of test rows) (part_of test rows))) h
