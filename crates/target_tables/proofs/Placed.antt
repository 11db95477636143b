-- Rising entries with one put in, put over or taken out at a key's place.
use Rattle.std.proofs.Common.{◌≡◌, ℕ, ◌+◌, ◌<◌, cond, List, ◌∷◌, ◌++◌, length, take, drop, get_or, set, Some, None, Ordering, refl, sym, ap, subst, ◌∙◌, add-one}
use borrow.Author.Tests.{eq-eqb}
use Rattle.std.proofs.lemmas.Bool.{ne_eqb}
use Rattle.std.proofs.lemmas.List.{take-append-drop, take-set, drop-set}
use Rattle.std.proofs.lemmas.Cmp.{tied_itself}
use Rattle.std.specs.declared.cmp.Ordering.TheVariants.{Less, Equal}
use Rattle.std.specs.Cmp.{IsTotalOrder}
use Rattle.std.specs.List.{insert, remove}
use Rattle.std.specs.Ordering.{eq_by_cmp}
use Rattle.target_tables.specs.Rising.{IsRising}
use Rattle.target_tables.specs.Places.{IsAt, IsGap}
use Rattle.target_tables.specs.Contents.{value_at}
use Rattle.target_tables.specs.Touches.{removed}
use Rattle.target_tables.proofs.Order.{split_at, ordered_with, ordered_without}
use Rattle.target_tables.proofs.Values.{by_key, found, absent, skip, put_over, put_in}

pub set-parts : {X : Type 0} (xs : List X) (i : ℕ) (y : X) → i < length xs → set xs i y ≡ take i xs ++ y ∷ drop (i + 1) xs
set-parts {X} xs i y inside =
    sym (take-append-drop i (set xs i y)) ∙ ap (λ (front : List X). front ++ drop i (set xs i y)) (take-set xs i y) ∙ ap (λ (back : List X). take i xs ++ back) (drop-set xs i y inside)

pub remove-parts : {X : Type 0} (xs : List X) (i : ℕ) → remove xs i ≡ take i xs ++ drop (i + 1) xs
remove-parts {X} xs i = ap (λ n. take i xs ++ drop n xs) (sym (add-one i))

module _ {K R : Type 0} {cmp : K → K → Ordering} (o : IsTotalOrder cmp) (es : List (K × (ℕ × R))) (k : K) (i : ℕ) (rising : IsRising cmp es) where
  abbrev front : List (K × (ℕ × R))
  front = take i es

  abbrev back : List (K × (ℕ × R))
  back = drop (i + 1) es

  -- ---- an entry with the key stands at the place

  module _ (at : IsAt cmp es k i) (x : K × (ℕ × R)) (is : x ≡ get_or es i x) where
    parts : es ≡ front ++ x ∷ back
    parts = split_at es i x at.inside is

    same : cmp x.0 k ≡ Equal
    same = ap (λ (y : K × (ℕ × R)). cmp y.0 k) is ∙ at.here x

    pub found_there : (q : K) → cmp k q ≡ Equal → value_at cmp es q ≡ Some x.1
    found_there q equal = ap (λ (all : List (K × (ℕ × R))). value_at cmp all q) parts ∙ found o front x back k q at.below same equal

    without : IsRising cmp (front ++ back)
    without = ordered_without (λ a b. cmp a b ≡ Less) front x back (subst (IsRising cmp) parts rising)

    pub rising_put : (w : ℕ × R) → IsRising cmp (set es i (k, w))
    rising_put w = subst (IsRising cmp) (sym (set-parts es i (k, w) at.inside)) (ordered_with (λ a b. cmp a b ≡ Less) front (k, w) back without at.below at.above)

    pub values_put : (w : ℕ × R) (q : K) → value_at cmp (set es i (k, w)) q ≡ cond (eq_by_cmp cmp k q) (Some w) (value_at cmp es q)
    values_put w q =
        ap (λ (all : List (K × (ℕ × R))). value_at cmp all q) (set-parts es i (k, w) at.inside)
        ∙ put_over o front x back k w at.below same q
        ∙ ap (λ (all : List (K × (ℕ × R))). cond (eq_by_cmp cmp k q) (Some w) (value_at cmp all q)) (sym parts)

    pub rising_removed : IsRising cmp (remove es i)
    rising_removed = subst (IsRising cmp) (sym (remove-parts es i)) without

    -- the stream's own row is taken away
    pub values_removed : (stream : ℕ) → x.1.0 ≡ stream → (q : K) → value_at cmp (remove es i) q ≡ cond (eq_by_cmp cmp k q) (removed stream (value_at cmp es q)) (value_at cmp es q)
    values_removed stream own q =
        by_key cmp k q (value_at cmp (remove es i) q) (removed stream (value_at cmp es q)) (value_at cmp es q)
        (λ equal. gone ∙ absent o front back k q at.below at.above equal ∙ sym (ap (removed stream) (found_there q equal) ∙ ap (λ b. cond b None (Some x.1)) (eq-eqb x.1.0 stream own)))
        (λ differs. gone ∙ sym (skip o front x back k q same differs) ∙ sym (ap (λ (all : List (K × (ℕ × R))). value_at cmp all q) parts))
      where
        gone : value_at cmp (remove es i) q ≡ value_at cmp (front ++ back) q
        gone = ap (λ (all : List (K × (ℕ × R))). value_at cmp all q) (remove-parts es i)

    -- another stream's row stays
    pub values_left : (stream : ℕ) → (x.1.0 ≡ stream → ⊥) → (q : K) → value_at cmp es q ≡ cond (eq_by_cmp cmp k q) (removed stream (value_at cmp es q)) (value_at cmp es q)
    values_left stream other q =
        by_key cmp k q (value_at cmp es q) (removed stream (value_at cmp es q)) (value_at cmp es q)
        (λ equal. found_there q equal ∙ sym (ap (removed stream) (found_there q equal) ∙ ap (λ b. cond b None (Some x.1)) (ne_eqb x.1.0 stream other)))
        (λ differs. refl)

  -- ---- no entry has the key

  module _ (gap : IsGap cmp es k i) where
    halves : es ≡ front ++ drop i es
    halves = sym (take-append-drop i es)

    pub none_there : (q : K) → cmp k q ≡ Equal → value_at cmp es q ≡ None
    none_there q equal = ap (λ (all : List (K × (ℕ × R))). value_at cmp all q) halves ∙ absent o front (drop i es) k q gap.below gap.above equal

    pub none_here : value_at cmp es k ≡ None
    none_here = none_there k (tied_itself o k)

    pub rising_inserted : (w : ℕ × R) → IsRising cmp (insert es i (k, w))
    rising_inserted w = ordered_with (λ a b. cmp a b ≡ Less) front (k, w) (drop i es) (subst (IsRising cmp) halves rising) gap.below gap.above

    pub values_inserted : (w : ℕ × R) (q : K) → value_at cmp (insert es i (k, w)) q ≡ cond (eq_by_cmp cmp k q) (Some w) (value_at cmp es q)
    values_inserted w q =
        put_in o front (drop i es) k w gap.below q ∙ ap (λ (all : List (K × (ℕ × R))). cond (eq_by_cmp cmp k q) (Some w) (value_at cmp all q)) (sym halves)

    pub values_none : (stream : ℕ) (q : K) → value_at cmp es q ≡ cond (eq_by_cmp cmp k q) (removed stream (value_at cmp es q)) (value_at cmp es q)
    values_none stream q =
        by_key cmp k q (value_at cmp es q) (removed stream (value_at cmp es q)) (value_at cmp es q)
        (λ equal. none_there q equal ∙ sym (ap (removed stream) (none_there q equal)))
        (λ differs. refl)
