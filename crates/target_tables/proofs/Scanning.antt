-- The entries at a key and past it, or past it alone, from the key's place.
use Rattle.std.proofs.Common.{◌≡◌, ℕ, ◌+◌, ◌-◌, ◌<◌, arith, length, length-drop, Bool, true, false, cond, not, List, [], ◌∷◌, ◌++◌, take, drop, get_or, Ordering, refl, sym, ap, subst, ◌∙◌}
use Rattle.std.proofs.lemmas.List.{take-append-drop, take_more, get_or_default}
use Rattle.std.proofs.lemmas.List.Elements.{filter-append}
use Rattle.std.specs.declared.cmp.Ordering.TheVariants.{Less}
use Rattle.std.specs.Cmp.{IsTotalOrder}
use Rattle.std.specs.List.{AllByRecursion, filter}
use Rattle.std.specs.Ordering.{ordering_reverse, is_lt, is_gt}
use Rattle.list_laws.proofs.Walks.{at_item}
use Rattle.list_laws.proofs.Fronts.{each}
use Rattle.target_tables.specs.Rising.{AreBelow, AreAbove}
use Rattle.target_tables.specs.Places.{IsAt, IsGap}
use Rattle.target_tables.specs.Contents.{from_key, past_key}
use Rattle.target_tables.proofs.Order.{all_join}

filter_none : {X : Type 0} (p : X → Bool) (xs : List X) → AllByRecursion (λ x. p x ≡ false) xs → filter p xs ≡ []
filter_none p [] h = refl
filter_none {X} p (x ∷ xs) h = ap (λ b. cond b (x ∷ filter p xs) (filter p xs)) h.0 ∙ filter_none p xs h.1

filter_all : {X : Type 0} (p : X → Bool) (xs : List X) → AllByRecursion (λ x. p x ≡ true) xs → filter p xs ≡ xs
filter_all p [] h = refl
filter_all {X} p (x ∷ xs) h = ap (λ b. cond b (x ∷ filter p xs) (filter p xs)) h.0 ∙ ap (λ (rest : List X). x ∷ rest) (filter_all p xs h.1)

-- none up to a place, and all from it on
filter_rest : {X : Type 0} (p : X → Bool) (xs : List X) (i : ℕ) → AllByRecursion (λ x. p x ≡ false) (take i xs) → AllByRecursion (λ x. p x ≡ true) (drop i xs) → filter p xs ≡ drop i xs
filter_rest {X} p xs i none all =
    ap (λ (ys : List X). filter p ys) (sym (take-append-drop i xs))
    ∙ filter-append p (take i xs) (drop i xs)
    ∙ ap (λ (front : List X). front ++ filter p (drop i xs)) (filter_none p (take i xs) none)
    ∙ filter_all p (drop i xs) all

module _ {K R : Type 0} {cmp : K → K → Ordering} (o : IsTotalOrder cmp) (es : List (K × (ℕ × R))) (k : K) (i : ℕ) where
  all_past : (xs : List (K × (ℕ × R))) → AreAbove cmp k xs → AllByRecursion (λ e. not (is_lt (cmp e.0 k)) ≡ true) xs
  all_past xs above = each (λ e. cmp k e.0 ≡ Less) (λ e. not (is_lt (cmp e.0 k)) ≡ true) (λ e l. ap (λ r. not (is_lt r)) (o.antisymm e.0 k ∙ ap ordering_reverse l)) xs above

  from_rest : AreBelow cmp k (take i es) → AllByRecursion (λ e. not (is_lt (cmp e.0 k)) ≡ true) (drop i es) → from_key cmp es k ≡ drop i es
  from_rest below rest =
      filter_rest (λ e. not (is_lt (cmp e.0 k))) es i (each (λ e. cmp e.0 k ≡ Less) (λ e. not (is_lt (cmp e.0 k)) ≡ false) (λ e l. ap (λ r. not (is_lt r)) l) (take i es) below) rest

  pub from_gap : IsGap cmp es k i → from_key cmp es k ≡ drop i es
  from_gap gap = from_rest gap.below (all_past (drop i es) gap.above)

  from_read : IsAt cmp es k i → (d : K × (ℕ × R)) → from_key cmp es k ≡ drop i es
  from_read at d =
      let x : K × (ℕ × R) = get_or es i d in
      let parts : drop i es ≡ x ∷ drop (i + 1) es = at_item es i x at.inside (get_or_default es i d x at.inside) in
      let P : List (K × (ℕ × R)) → Type 0 = AllByRecursion (λ e. not (is_lt (cmp e.0 k)) ≡ true) in
      from_rest at.below (subst P (sym parts) (ap (λ r. not (is_lt r)) (at.here d), all_past (drop (i + 1) es) at.above))

  pub from_place : IsAt cmp es k i → from_key cmp es k ≡ drop i es
  from_place at = by (drop i es) refl
    where
      by : (rest : List (K × (ℕ × R))) → drop i es ≡ rest → from_key cmp es k ≡ drop i es
      by [] e = let P : List (K × (ℕ × R)) → Type 0 = AllByRecursion (λ e. not (is_lt (cmp e.0 k)) ≡ true) in from_rest at.below (subst P (sym e) tt)
      by (y ∷ rest) e = from_read at y

module _ {K R : Type 0} {cmp : K → K → Ordering} (o : IsTotalOrder cmp) (es : List (K × (ℕ × R))) (k : K) (i : ℕ) where
  none_past : (xs : List (K × (ℕ × R))) → AreBelow cmp k xs → AllByRecursion (λ e. is_gt (cmp e.0 k) ≡ false) xs
  none_past xs below = each (λ e. cmp e.0 k ≡ Less) (λ e. is_gt (cmp e.0 k) ≡ false) (λ e l. ap is_gt l) xs below

  each_past : (xs : List (K × (ℕ × R))) → AreAbove cmp k xs → AllByRecursion (λ e. is_gt (cmp e.0 k) ≡ true) xs
  each_past xs above = each (λ e. cmp k e.0 ≡ Less) (λ e. is_gt (cmp e.0 k) ≡ true) (λ e l. ap is_gt (o.antisymm e.0 k ∙ ap ordering_reverse l)) xs above

  pub past_gap : IsGap cmp es k i → past_key cmp es k ≡ drop i es
  past_gap gap = filter_rest (λ e. is_gt (cmp e.0 k)) es i (none_past (take i es) gap.below) (each_past (drop i es) gap.above)

  past_read : IsAt cmp es k i → (d : K × (ℕ × R)) → past_key cmp es k ≡ drop (i + 1) es
  past_read at d =
      let P : K × (ℕ × R) → Type 0 = λ e. is_gt (cmp e.0 k) ≡ false in
      let x : K × (ℕ × R) = get_or es i d in
      let parts : take (i + 1) es ≡ take i es ++ x ∷ [] = take_more es i d at.inside in
      let Q : List (K × (ℕ × R)) → Type 0 = AllByRecursion P in
      filter_rest (λ e. is_gt (cmp e.0 k)) es (i + 1)
      (subst Q (sym parts) (all_join P (take i es) (x ∷ []) (none_past (take i es) at.below) (ap is_gt (at.here d), tt)))
      (each_past (drop (i + 1) es) at.above)

  pub past_place : IsAt cmp es k i → past_key cmp es k ≡ drop (i + 1) es
  past_place at = by es refl
    where
      by : (all : List (K × (ℕ × R))) → es ≡ all → past_key cmp es k ≡ drop (i + 1) es
      by [] e =
          let inside : i < length es = at.inside in
          let none : length es ≡ 0 = ap length e in
          absurd (omega arith)
      by (y ∷ rest) e = past_read at y

take_all : {X : Type 0} (xs : List X) → take (length xs) xs ≡ xs
take_all [] = refl
take_all {X} (x ∷ xs) = ap (λ (rest : List X). x ∷ rest) (take_all xs)

-- a slice from a place to the end
pub take_rest : {X : Type 0} (p : ℕ) (xs : List X) → take (length xs - p) (drop p xs) ≡ drop p xs
take_rest {X} p xs = ap (λ n. take n (drop p xs)) (sym (length-drop p xs)) ∙ take_all (drop p xs)
