-- What the key at one place says of the places before and behind it.
use Rattle.std.proofs.Common.{◌≡◌, ℕ, ◌+◌, ◌<◌, List, [], ◌∷◌, ◌++◌, length, take, drop, get_or, Ordering, sym, ap, subst, ◌∙◌}
use Rattle.std.proofs.lemmas.List.{take_more, get_or_default}
use Rattle.std.proofs.lemmas.Cmp.{alike_right}
use Rattle.std.specs.declared.cmp.Ordering.TheVariants.{Less, Equal, Greater}
use Rattle.std.specs.Cmp.{IsTotalOrder}
use Rattle.std.specs.Ordering.{ordering_reverse}
use Rattle.list_laws.proofs.Walks.{at_item}
use Rattle.list_laws.proofs.Fronts.{each}
use Rattle.target_tables.specs.Rising.{IsRising, AreBelow, AreAbove}
use Rattle.target_tables.specs.Places.{IsAt}
use Rattle.target_tables.proofs.Order.{all_join, split_at, before_middle, behind_middle}

module _ {K V : Type 0} {cmp : K → K → Ordering} (o : IsTotalOrder cmp) (es : List (K × V)) (i : ℕ) (x : K × V) (inside : i < length es) (is : x ≡ get_or es i x) (rising : IsRising cmp es) where
  parted : IsRising cmp (take i es ++ x ∷ drop (i + 1) es)
  parted = subst (IsRising cmp) (split_at es i x inside is) rising

  before : AreBelow cmp x.0 (take i es)
  before = before_middle (λ a b. cmp a b ≡ Less) (take i es) x (drop (i + 1) es) parted

  behind : AreAbove cmp x.0 (drop (i + 1) es)
  behind = behind_middle (λ a b. cmp a b ≡ Less) (take i es) x (drop (i + 1) es) parted

  -- a lesser key: so are all up to it
  pub below_to : (k : K) → cmp x.0 k ≡ Less → AreBelow cmp k (take (i + 1) es)
  below_to k less =
      let P : K × V → Type 0 = λ e. cmp e.0 k ≡ Less in
      let front : AreBelow cmp k (take i es) = each (λ e. cmp e.0 x.0 ≡ Less) P (λ e l. o.trans e.0 x.0 k l less) (take i es) before in
      let t : take (i + 1) es ≡ take i es ++ x ∷ [] = take_more es i x inside ∙ ap (λ (y : K × V). take i es ++ y ∷ []) (sym is) in
      let Q : List (K × V) → Type 0 = AreBelow cmp k in
      subst Q (sym t) (all_join P (take i es) (x ∷ []) front (less, tt))

  -- a greater key: so are all from it on
  pub above_to : (k : K) → cmp x.0 k ≡ Greater → AreAbove cmp k (drop i es)
  above_to k greater =
      let less : cmp k x.0 ≡ Less = o.antisymm k x.0 ∙ ap ordering_reverse greater in
      let back : AreAbove cmp k (drop (i + 1) es) = each (λ e. cmp x.0 e.0 ≡ Less) (λ e. cmp k e.0 ≡ Less) (λ e l. o.trans k x.0 e.0 less l) (drop (i + 1) es) behind in
      let d : drop i es ≡ x ∷ drop (i + 1) es = at_item es i x inside is in
      let Q : List (K × V) → Type 0 = AreAbove cmp k in
      subst Q (sym d) (less, back)

  -- the key itself
  pub at_place : (k : K) → cmp x.0 k ≡ Equal → IsAt cmp es k i
  at_place k equal = record {
    inside = inside;
    below = each (λ e. cmp e.0 x.0 ≡ Less) (λ e. cmp e.0 k ≡ Less) (λ e l. sym (alike_right o x.0 k e.0 equal) ∙ l) (take i es) before;
    here = λ d. ap (λ (y : K × V). cmp y.0 k) (get_or_default es i d x inside ∙ sym is) ∙ equal;
    above = each (λ e. cmp x.0 e.0 ≡ Less) (λ e. cmp k e.0 ≡ Less) (λ e l. sym (o.congr x.0 k e.0 equal) ∙ l) (drop (i + 1) es) behind;
  }

-- the same of the key that is read at the place
module _ {K V : Type 0} {cmp : K → K → Ordering} (o : IsTotalOrder cmp) (es : List (K × V)) (i : ℕ) (d : K × V) (inside : i < length es) (rising : IsRising cmp es) where
  pub below_read : (k : K) → cmp (get_or es i d).0 k ≡ Less → AreBelow cmp k (take (i + 1) es)
  below_read = below_to o es i (get_or es i d) inside (get_or_default es i d (get_or es i d) inside) rising

  pub above_read : (k : K) → cmp (get_or es i d).0 k ≡ Greater → AreAbove cmp k (drop i es)
  above_read = above_to o es i (get_or es i d) inside (get_or_default es i d (get_or es i d) inside) rising

  pub at_read : (k : K) → cmp (get_or es i d).0 k ≡ Equal → IsAt cmp es k i
  at_read = at_place o es i (get_or es i d) inside (get_or_default es i d (get_or es i d) inside) rising
