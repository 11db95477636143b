-- What stands at each key after a change at one.
use Rattle.std.proofs.Common.{◌≡◌, Bool, true, false, cond, List, [], ◌∷◌, ◌++◌, Option, Some, None, Ordering, refl, sym, ap, ◌∙◌}
use Rattle.std.proofs.lemmas.Map.{lookup-none}
use Rattle.std.proofs.lemmas.Cmp.{alike_right, tied_back, tied_itself, eq_by_cmp_equiv}
use Rattle.std.specs.declared.cmp.Ordering.TheVariants.{Less, Equal, Greater}
use Rattle.std.specs.Cmp.{IsTotalOrder}
use Rattle.std.specs.Map.{lookup}
use Rattle.std.specs.Option.{option_or}
use Rattle.std.specs.Ordering.{ordering_reverse, is_eq, eq_by_cmp}
use Rattle.list_laws.proofs.Fronts.{each}
use Rattle.target_tables.specs.Rising.{AreBelow, AreAbove}

pub lookup-append : {K V : Type 0} (t : K → Bool) (xs ys : List (K × V)) → lookup t (xs ++ ys) ≡ option_or (lookup t xs) (lookup t ys)
lookup-append t [] ys = refl
lookup-append t (x ∷ xs) ys =
    elim (t x.0) as (λ b. cond b (Some x.1) (lookup t (xs ++ ys)) ≡ option_or (cond b (Some x.1) (lookup t xs)) (lookup t ys)) [ true ↦ refl | false ↦ lookup-append t xs ys ]

-- by cases on whether q is the key k
pub by_key : {K V : Type 0} (cmp : K → K → Ordering) (k q : K) (new want old : V) → (cmp k q ≡ Equal → new ≡ want) → (eq_by_cmp cmp k q ≡ false → new ≡ old) → new ≡ cond (eq_by_cmp cmp k q) want old
by_key {K} {V} cmp k q new want old here elsewhere = by (cmp k q) refl
  where
    by : (r : Ordering) → cmp k q ≡ r → new ≡ cond (is_eq (cmp k q)) want old
    by Less e = elsewhere (ap is_eq e) ∙ sym (ap (λ b. cond b want old) (ap is_eq e))
    by Equal e = here e ∙ sym (ap (λ b. cond b want old) (ap is_eq e))
    by Greater e = elsewhere (ap is_eq e) ∙ sym (ap (λ b. cond b want old) (ap is_eq e))

module _ {K : Type 0} {cmp : K → K → Ordering} (o : IsTotalOrder cmp) where
  -- whether q is the key of a pair that has the key k
  pub is_key : (k q : K) (j : K) → cmp j k ≡ Equal → cmp k q ≡ Equal → eq_by_cmp cmp q j ≡ true
  is_key k q j same equal = ap is_eq (sym (o.congr k q j equal) ∙ tied_back o j k same)

  pub isnt_key : (k q : K) (j : K) → cmp j k ≡ Equal → eq_by_cmp cmp k q ≡ false → eq_by_cmp cmp q j ≡ false
  isnt_key k q j same differs = ap is_eq (alike_right o j k q same) ∙ (eq_by_cmp_equiv o).symm q k ∙ differs

module _ {K V : Type 0} {cmp : K → K → Ordering} (o : IsTotalOrder cmp) where
  -- ---- pairs with another key than q

  pub none_below : (k q : K) (es : List (K × V)) → cmp k q ≡ Equal → AreBelow cmp k es → lookup (eq_by_cmp cmp q) es ≡ None
  none_below k q es equal below =
      lookup-none (eq_by_cmp cmp q) es (each (λ e. cmp e.0 k ≡ Less) (λ e. eq_by_cmp cmp q e.0 ≡ false)
      (λ e less. ap is_eq (sym (o.congr k q e.0 equal) ∙ o.antisymm k e.0 ∙ ap ordering_reverse less)) es below)

  pub none_above : (k q : K) (es : List (K × V)) → cmp k q ≡ Equal → AreAbove cmp k es → lookup (eq_by_cmp cmp q) es ≡ None
  none_above k q es equal above =
      lookup-none (eq_by_cmp cmp q) es (each (λ e. cmp k e.0 ≡ Less) (λ e. eq_by_cmp cmp q e.0 ≡ false)
      (λ e less. ap is_eq (sym (o.congr k q e.0 equal) ∙ less)) es above)

  -- ---- a pair with the key k between lesser and greater ones

  pub found : (front : List (K × V)) (x : K × V) (back : List (K × V)) (k q : K) → AreBelow cmp k front → cmp x.0 k ≡ Equal → cmp k q ≡ Equal
      → lookup (eq_by_cmp cmp q) (front ++ x ∷ back) ≡ Some x.1
  found front x back k q below same equal =
      lookup-append (eq_by_cmp cmp q) front (x ∷ back)
      ∙ ap (λ (v : Option V). option_or v (lookup (eq_by_cmp cmp q) (x ∷ back))) (none_below k q front equal below)
      ∙ ap (λ b. cond b (Some x.1) (lookup (eq_by_cmp cmp q) back)) (is_key o k q x.0 same equal)

  pub absent : (front back : List (K × V)) (k q : K) → AreBelow cmp k front → AreAbove cmp k back → cmp k q ≡ Equal → lookup (eq_by_cmp cmp q) (front ++ back) ≡ None
  absent front back k q below above equal =
      lookup-append (eq_by_cmp cmp q) front back
      ∙ ap (λ (v : Option V). option_or v (lookup (eq_by_cmp cmp q) back)) (none_below k q front equal below)
      ∙ none_above k q back equal above

  pub skip : (front : List (K × V)) (x : K × V) (back : List (K × V)) (k q : K) → cmp x.0 k ≡ Equal → eq_by_cmp cmp k q ≡ false
      → lookup (eq_by_cmp cmp q) (front ++ x ∷ back) ≡ lookup (eq_by_cmp cmp q) (front ++ back)
  skip front x back k q same differs =
      lookup-append (eq_by_cmp cmp q) front (x ∷ back)
      ∙ ap (λ b. option_or (lookup (eq_by_cmp cmp q) front) (cond b (Some x.1) (lookup (eq_by_cmp cmp q) back))) (isnt_key o k q x.0 same differs)
      ∙ sym (lookup-append (eq_by_cmp cmp q) front back)

  pub put_over : (front : List (K × V)) (x : K × V) (back : List (K × V)) (k : K) (w : V) → AreBelow cmp k front → cmp x.0 k ≡ Equal
      → (q : K) → lookup (eq_by_cmp cmp q) (front ++ (k, w) ∷ back) ≡ cond (eq_by_cmp cmp k q) (Some w) (lookup (eq_by_cmp cmp q) (front ++ x ∷ back))
  put_over front x back k w below same q =
      by_key cmp k q _ (Some w) (lookup (eq_by_cmp cmp q) (front ++ x ∷ back))
      (λ equal. found front (k, w) back k q below (tied_itself o k) equal)
      (λ differs. skip front (k, w) back k q (tied_itself o k) differs ∙ sym (skip front x back k q same differs))

  pub put_in : (front back : List (K × V)) (k : K) (w : V) → AreBelow cmp k front
      → (q : K) → lookup (eq_by_cmp cmp q) (front ++ (k, w) ∷ back) ≡ cond (eq_by_cmp cmp k q) (Some w) (lookup (eq_by_cmp cmp q) (front ++ back))
  put_in front back k w below q =
      by_key cmp k q _ (Some w) (lookup (eq_by_cmp cmp q) (front ++ back))
      (λ equal. found front (k, w) back k q below (tied_itself o k) equal)
      (λ differs. skip front (k, w) back k q (tied_itself o k) differs)

  pub taken_out : (front : List (K × V)) (x : K × V) (back : List (K × V)) (k : K) → AreBelow cmp k front → cmp x.0 k ≡ Equal → AreAbove cmp k back
      → (q : K) → lookup (eq_by_cmp cmp q) (front ++ back) ≡ cond (eq_by_cmp cmp k q) None (lookup (eq_by_cmp cmp q) (front ++ x ∷ back))
  taken_out front x back k below same above q =
      by_key cmp k q _ None (lookup (eq_by_cmp cmp q) (front ++ x ∷ back))
      (λ equal. absent front back k q below above equal)
      (λ differs. sym (skip front x back k q same differs))

  -- equal keys find the same
  pub same_found : (k q : K) → cmp k q ≡ Equal → (es : List (K × V)) → lookup (eq_by_cmp cmp q) es ≡ lookup (eq_by_cmp cmp k) es
  same_found k q equal [] = refl
  same_found k q equal (e ∷ es) =
      ap (λ b. cond b (Some e.1) (lookup (eq_by_cmp cmp q) es)) (ap is_eq (sym (o.congr k q e.0 equal)))
      ∙ ap (λ (v : Option V). cond (eq_by_cmp cmp k e.0) (Some e.1) v) (same_found k q equal es)
