-- What the first keys of pages say of a key's page, and its place in the page of its place among all entries.
use Rattle.std.proofs.Common.{◌≡◌, ℕ, zero, suc, ◌+◌, ◌<◌, ◌≤◌, true, false, List, [], ◌∷◌, ◌++◌, length, take, drop, Ordering, refl, sym, ap, subst, ◌∙◌, arith}
use mathlib.Core.Bool.{true≢false}
use Rattle.std.proofs.lemmas.List.{drop_more, take-append-drop}
use Rattle.std.proofs.lemmas.List.Concat.{flat_map-append}
use Rattle.std.proofs.lemmas.List.Elements.{All-get_or}
use Rattle.std.proofs.lemmas.Cmp.{alike_right}
use Rattle.std.specs.declared.cmp.Ordering.TheVariants.{Less, Equal, Greater}
use Rattle.std.specs.Cmp.{IsTotalOrder}
use Rattle.std.specs.Ordering.{ordering_reverse, is_gt}
use Rattle.list_laws.proofs.Fronts.{each}
use Rattle.target_tables.specs.Rising.{Ordered, IsRising, AreBelow, AreAbove}
use Rattle.target_tables.specs.Places.{IsAt, IsGap}
use Rattle.target_tables.specs.Pages.{entries_of, page_at, flat, IsFull, AreFull, begins_past, FallsInto, StandsAt, WouldStandAt}
use Rattle.target_tables.proofs.Order.{all_join, before_middle, ordered_left}
use Rattle.target_tables.proofs.Paging.{before, behind, parts, read, front, rest, up_to}

pub ordered_right : {K V : Type 0} (R : K → K → Type 0) (xs ys : List (K × V)) → Ordered R (xs ++ ys) → Ordered R ys
ordered_right R [] ys h = h
ordered_right R (e ∷ xs) ys h = ordered_right R xs ys h.1

-- how many entries page i has
pub size_at : {X : Type 0} (pages : List (List X)) (i : ℕ) → i < length pages → AreFull pages → IsFull (page_at pages i)
size_at {X} pages i inside full = All-get_or (λ (page : List X). IsFull page) pages i [] inside full

module _ {K : Type 0} {cmp : K → K → Ordering} (o : IsTotalOrder cmp) (k : K) where
  less_than : (a b : K) (r : Ordering) → cmp b k ≡ r → cmp a b ≡ Less → is_gt (cmp b k) ≡ false → cmp a k ≡ Less
  less_than a b Less e less h = o.trans a b k less e
  less_than a b Equal e less h = sym (alike_right o b k a e) ∙ less
  less_than a b Greater e less h = absurd (true≢false (sym (ap is_gt e) ∙ h))

  greater_than : (x : K) (r : Ordering) → cmp x k ≡ r → is_gt (cmp x k) ≡ true → cmp k x ≡ Less
  greater_than x Less e h = absurd (true≢false (sym h ∙ ap is_gt e))
  greater_than x Equal e h = absurd (true≢false (sym h ∙ ap is_gt e))
  greater_than x Greater e h = o.antisymm k x ∙ ap ordering_reverse e

module _ {K V : Type 0} {cmp : K → K → Ordering} (o : IsTotalOrder cmp) (k : K) where
  -- before a page that doesn't begin past the key all are less
  below_page : (front page back : List (K × V)) → IsRising cmp (front ++ (page ++ back)) → 1 ≤ length page → begins_past cmp k page ≡ false → AreBelow cmp k front
  below_page front [] back rising some h = absurd (omega arith)
  below_page front (x ∷ page) back rising some h =
      each (λ e. cmp e.0 x.0 ≡ Less) (λ e. cmp e.0 k ≡ Less) (λ e less. less_than o k e.0 x.0 (cmp x.0 k) refl less h) front
      (before_middle (λ a b. cmp a b ≡ Less) front x (page ++ back) rising)

  -- from a page on that begins past the key all are greater
  pub above_page : (page back : List (K × V)) → IsRising cmp (page ++ back) → begins_past cmp k page ≡ true → AreAbove cmp k (page ++ back)
  above_page [] back rising h = absurd (true≢false (sym h))
  above_page (x ∷ page) back rising h =
      let less : cmp k x.0 ≡ Less = greater_than o k x.0 (cmp x.0 k) refl h in
      (less, each (λ e. cmp x.0 e.0 ≡ Less) (λ e. cmp k e.0 ≡ Less) (λ e l. o.trans k x.0 e.0 less l) (page ++ back) rising.0)

  module _ (pages : List (List (K × V))) (rising : IsRising cmp (entries_of pages)) (full : AreFull pages) where
    pub above_from : (i : ℕ) → i < length pages → begins_past cmp k (page_at pages i) ≡ true → AreAbove cmp k (entries_of (drop i pages))
    above_from i inside h =
        let there : drop i pages ≡ page_at pages i ∷ drop (i + 1) pages = drop_more pages i [] inside in
        let halves : entries_of pages ≡ entries_of (take i pages) ++ entries_of (drop i pages) =
        ap (λ (l : List (List (K × V))). entries_of l) (sym (take-append-drop i pages)) ∙ flat_map-append (λ (page : List (K × V)). page) (take i pages) (drop i pages) in
        let back : IsRising cmp (entries_of (drop i pages)) = ordered_right (λ a b. cmp a b ≡ Less) (entries_of (take i pages)) (entries_of (drop i pages)) (subst (IsRising cmp) halves rising) in
        let P : List (List (K × V)) → Type 0 = λ l. IsRising cmp (entries_of l) in
        let Q : List (List (K × V)) → Type 0 = λ l. AreAbove cmp k (entries_of l) in
        subst Q (sym there) (above_page (page_at pages i) (entries_of (drop (i + 1) pages)) (subst P there back) h)

    module _ (i : ℕ) (falls : FallsInto cmp pages k i) where
      first_below : (n : ℕ) → n ≡ i → AreBelow cmp k (entries_of (take n pages))
      first_below zero e = tt
      first_below (suc n) e =
          let positive : 0 < i = omega arith in
          let Q : ℕ → Type 0 = λ m. AreBelow cmp k (entries_of (take m pages)) in
          subst Q (sym e)
          (below_page (entries_of (take i pages)) (page_at pages i) (entries_of (drop (i + 1) pages))
          (subst (IsRising cmp) (parts pages i falls.inside) rising) (size_at pages i falls.inside full).least (falls.from positive))

      -- all before the page are less
      pub before_below : AreBelow cmp k (before pages i)
      before_below = first_below i refl

      -- a page's keys rise
      pub rises_there : IsRising cmp (page_at pages i)
      rises_there =
          ordered_left (λ a b. cmp a b ≡ Less) (page_at pages i) (behind pages i)
          (ordered_right (λ a b. cmp a b ≡ Less) (before pages i) (page_at pages i ++ behind pages i) (subst (IsRising cmp) (parts pages i falls.inside) rising))

      module _ (p : ℕ) where
        below_there : p ≤ length (page_at pages i) → AreBelow cmp k (take p (page_at pages i)) → AreBelow cmp k (take (flat pages i p) (entries_of pages))
        below_there within below =
            let Q : List (K × V) → Type 0 = AreBelow cmp k in
            subst Q (sym (front pages i falls.inside p within)) (all_join (λ e. cmp e.0 k ≡ Less) (before pages i) (take p (page_at pages i)) before_below below)

        above_there : (q : ℕ) → q ≤ length (page_at pages i) → AreAbove cmp k (drop q (page_at pages i)) → AreAbove cmp k (drop (flat pages i q) (entries_of pages))
        above_there q within above =
            let Q : List (K × V) → Type 0 = AreAbove cmp k in
            subst Q (sym (rest pages i falls.inside q within)) (all_join (λ e. cmp k e.0 ≡ Less) (drop q (page_at pages i)) (behind pages i) above falls.later)

        -- the key's place in its page is its place among all entries
        pub stands : IsAt cmp (page_at pages i) k p → StandsAt cmp pages k i p
        stands at =
            let next : p + 1 ≤ length (page_at pages i) = let l : p < length (page_at pages i) = at.inside in omega arith in
            let most : flat pages i (p + 1) ≤ length (entries_of pages) = up_to pages i falls.inside (p + 1) next in
            let on : flat pages i (p + 1) ≡ flat pages i p + 1 = omega arith in
            let Q : ℕ → Type 0 = λ n. AreAbove cmp k (drop n (entries_of pages)) in
            let l : p < length (page_at pages i) = at.inside in
            record {
              falls = falls;
              within = at.inside;
              at = record {
                inside = omega arith;
                below = below_there (omega arith) at.below;
                here = λ d. ap (λ (e : K × V). cmp e.0 k) (read pages i falls.inside p at.inside d) ∙ at.here d;
                above = subst Q on (above_there (p + 1) next at.above);
              };
            }

        pub would_stand : IsGap cmp (page_at pages i) k p → WouldStandAt cmp pages k i p
        would_stand gap =
            record {
              falls = λ some. falls;
              within = gap.inside;
              gap = record {
                inside = up_to pages i falls.inside p gap.inside;
                below = below_there gap.inside gap.below;
                above = above_there p gap.inside gap.above;
              };
            }
