-- What a stable sort by key keeps and gives.
use Rattle.std.proofs.Common.{◌≡◌, ℕ, suc, ◌<◌, Bool, true, false, cond, not, ◌&&◌, List, [], ◌∷◌, length, get_or, Option, Some, None, Ordering, refl, sym, ap, ◌∙◌, arith}
use Rattle.std.proofs.lemmas.List.Elements.{recursion_from_All}
use Rattle.std.proofs.lemmas.List.Sorted.{ranks_by, sorted_far}
use Rattle.std.specs.declared.cmp.Ordering.TheVariants.{Less, Equal, Greater}
use Rattle.std.specs.Cmp.{IsTotalOrder}
use Rattle.std.specs.List.{filter}
use Rattle.std.specs.List.Sorted.{IsSortedByKey, IsStableByKey, ties}
use Rattle.std.specs.Option.{option_or}
use Rattle.std.specs.Ordering.{ordering_reverse, is_eq, is_lt, is_gt, eq_by_cmp}
use Rattle.list_laws.proofs.Choices.{or_none}
use Rattle.target_tables.specs.Rising.{NeverFalls}
use Rattle.target_tables.specs.Touches.{last_at}

module _ {K : Type 0} {cmp : K → K → Ordering} (o : IsTotalOrder cmp) where
  turned : (r : Ordering) → is_lt (ordering_reverse r) ≡ is_gt r
  turned Less = refl
  turned Equal = refl
  turned Greater = refl

  -- `greater` is `less` the other way round
  pub gt-flip : (a b : K) → is_gt (cmp a b) ≡ is_lt (cmp b a)
  gt-flip a b = sym (ap is_lt (o.antisymm b a) ∙ turned (cmp a b))

  never_falls_from : {V : Type 0} (xs : List (K × V)) → ((i j : ℕ) (d : K × V) → i < j → j < length xs → is_gt (cmp (get_or xs i d).0 (get_or xs j d).0) ≡ false) → NeverFalls cmp xs
  never_falls_from [] h = tt
  never_falls_from {V} (x ∷ xs) h = (
    recursion_from_All (λ later. is_gt (cmp x.0 later.0) ≡ false) xs (λ k d l. h 0 (suc k) d (omega arith) (omega arith)),
    never_falls_from xs (λ i j d l m. h (suc i) (suc j) d (omega arith) (omega arith)),
  )

  -- a list that is sorted by its keys
  pub never_falls_from_sorted : {V : Type 0} (xs : List (K × V)) → IsSortedByKey (λ t. t.0) cmp xs → NeverFalls cmp xs
  never_falls_from_sorted {V} xs sorted =
      never_falls_from xs (λ i j d l m. gt-flip (get_or xs i d).0 (get_or xs j d).0
      ∙ sorted_far (λ x y. is_lt (cmp x.0 y.0)) (ranks_by o (λ (t : K × V). t.0)) xs sorted i j d (omega arith) m)

  tie : (r s : Ordering) → s ≡ ordering_reverse r → not (is_lt r) && not (is_lt s) ≡ is_eq r
  tie Less s e = refl
  tie Equal s e = ap (λ q. not (is_lt q)) e
  tie Greater s e = ap (λ q. not (is_lt q)) e

  -- keys that tie are one key
  tied : {V : Type 0} (x y : K × V) → ties (λ a b. is_lt (cmp a.0 b.0)) x y ≡ eq_by_cmp cmp x.0 y.0
  tied x y = tie (cmp x.0 y.0) (cmp y.0 x.0) (o.antisymm y.0 x.0)

  module _ {R : Type 0} where
    -- the touches of one key say what its last touch is
    of_its_own : (p : K × Option R → Bool) (k : K) → ((y : K × Option R) → p y ≡ eq_by_cmp cmp k y.0) → (xs : List (K × Option R)) → last_at cmp (filter p xs) k ≡ last_at cmp xs k
    of_its_own p k same [] = refl
    of_its_own p k same (x ∷ xs) = by (of_its_own p k same xs) (p x) (sym (same x))
      where
        by : last_at cmp (filter p xs) k ≡ last_at cmp xs k → (b : Bool) → eq_by_cmp cmp k x.0 ≡ b → last_at cmp (cond b (x ∷ filter p xs) (filter p xs)) k ≡ option_or (last_at cmp xs k) (cond (eq_by_cmp cmp k x.0) (Some x.1) None)
        by rest true e = ap (λ (v : Option (Option R)). option_or v (cond (eq_by_cmp cmp k x.0) (Some x.1) None)) rest
        by rest false e = rest ∙ sym (or_none (last_at cmp xs k)) ∙ sym (ap (λ b. option_or (last_at cmp xs k) (cond b (Some x.1) None)) e)

    -- a stable sort leaves each key its last touch
    pub last_at_stable : (xs ys : List (K × Option R)) → IsStableByKey (λ t. t.0) cmp xs ys → (k : K) → last_at cmp ys k ≡ last_at cmp xs k
    last_at_stable xs ys stable k =
        let x : K × Option R = (k, None) in
        let p : K × Option R → Bool = ties (λ a b. is_lt (cmp a.0 b.0)) x in
        sym (of_its_own p k (λ y. tied x y) ys) ∙ ap (λ (zs : List (K × Option R)). last_at cmp zs k) (stable x) ∙ of_its_own p k (λ y. tied x y) xs
