-- A key that stands at a place that was looked at, or would stand there.
use Rattle.std.proofs.Common.{◌≡◌, ℕ, zero, suc, ◌+◌, ◌<◌, ◌≤◌, false, List, [], ◌∷◌, ◌++◌, length, take, drop, get_or, Ordering, refl, sym, ap, subst, ◌∙◌, arith}
use Rattle.std.proofs.lemmas.List.{drop_all}
use Rattle.std.specs.declared.cmp.Ordering.TheVariants.{Less, Equal, Greater}
use Rattle.std.specs.Cmp.{IsTotalOrder}
use Rattle.std.specs.List.{HoldsAt}
use Rattle.std.specs.Ordering.{is_gt}
use Rattle.target_tables.specs.Rising.{IsRising, AreBelow, AreAbove}
use Rattle.target_tables.specs.Places.{IsAt}
use Rattle.target_tables.specs.Pages.{entries_of, page_at, flat, begins_past, StandsAt, WouldStandAt}
use Rattle.target_tables.proofs.Order.{all_right}
use Rattle.target_tables.proofs.Paging.{before, behind, front, rest, read, up_to}
use Rattle.target_tables.proofs.Seeking.{above_to, at_place}

module _ {K V : Type 0} {cmp : K → K → Ordering} (o : IsTotalOrder cmp) (k : K) where
  -- a page that has a lesser key, or the key itself, doesn't begin past it
  first_less : (page : List (K × V)) (p : ℕ) → 0 < p → AreBelow cmp k (take p page) → begins_past cmp k page ≡ false
  first_less [] p some h = refl
  first_less (x ∷ page) zero some h = absurd (omega arith)
  first_less (x ∷ page) (suc p) some h = ap is_gt h.0

  first_same : (page : List (K × V)) (p : ℕ) → AreBelow cmp k (take p page) → HoldsAt (λ e. cmp e.0 k ≡ Equal) page p → begins_past cmp k page ≡ false
  first_same [] p below here = refl
  first_same (x ∷ page) zero below here = ap is_gt (here x)
  first_same (x ∷ page) (suc p) below here = ap is_gt below.0

  module _ (pages : List (List (K × V))) (rising : IsRising cmp (entries_of pages)) (i p : ℕ) (inside : i < length pages) where
    below_in : p ≤ length (page_at pages i) → AreBelow cmp k (take (flat pages i p) (entries_of pages)) → AreBelow cmp k (take p (page_at pages i))
    below_in within below =
        let Q : List (K × V) → Type 0 = AreBelow cmp k in
        all_right (λ e. cmp e.0 k ≡ Less) (before pages i) (take p (page_at pages i)) (subst Q (front pages i inside p within) below)

    behind_in : (q : ℕ) → q ≤ length (page_at pages i) → AreAbove cmp k (drop (flat pages i q) (entries_of pages)) → AreAbove cmp k (behind pages i)
    behind_in q within above =
        let Q : List (K × V) → Type 0 = AreAbove cmp k in
        all_right (λ e. cmp k e.0 ≡ Less) (drop q (page_at pages i)) (behind pages i) (subst Q (rest pages i inside q within) above)

    pub next_most : p < length (page_at pages i) → flat pages i p < length (entries_of pages)
    next_most within = let most : flat pages i (p + 1) ≤ length (entries_of pages) = up_to pages i inside (p + 1) (omega arith) in omega arith

    -- the key is read there
    pub stands_there : (x : K × V) → p < length (page_at pages i) → x ≡ get_or (entries_of pages) (flat pages i p) x → cmp x.0 k ≡ Equal → StandsAt cmp pages k i p
    stands_there x within is equal =
        let at : IsAt cmp (entries_of pages) k (flat pages i p) = at_place o (entries_of pages) (flat pages i p) x (next_most within) is rising k equal in
        let on : flat pages i p + 1 ≡ flat pages i (p + 1) = omega arith in
        let Q : ℕ → Type 0 = λ n. AreAbove cmp k (drop n (entries_of pages)) in
        record {
          falls = record {
            inside = inside;
            from = λ positive. first_same (page_at pages i) p (below_in (omega arith) at.below) (λ d. ap (λ (e : K × V). cmp e.0 k) (sym (read pages i inside p within d)) ∙ at.here d);
            later = behind_in (p + 1) (omega arith) (subst Q on at.above);
          };
          within = within;
          at = at;
        }

    -- a greater key is read there, and those before are less
    pub would_stand_there : (x : K × V) → p < length (page_at pages i) → x ≡ get_or (entries_of pages) (flat pages i p) x → cmp x.0 k ≡ Greater
        → AreBelow cmp k (take (flat pages i p) (entries_of pages)) → (0 < i → 0 < p) → WouldStandAt cmp pages k i p
    would_stand_there x within is greater below first =
        let most : flat pages i p < length (entries_of pages) = next_most within in
        let above : AreAbove cmp k (drop (flat pages i p) (entries_of pages)) = above_to o (entries_of pages) (flat pages i p) x most is rising k greater in
        record {
          falls = λ some. record {
            inside = inside;
            from = λ positive. first_less (page_at pages i) p (first positive) (below_in (omega arith) below);
            later = behind_in p (omega arith) above;
          };
          within = omega arith;
          gap = record { inside = omega arith; below = below; above = above };
        }

    -- a page's end, behind which all are greater
    pub would_stand_last : p ≡ length (page_at pages i) → AreAbove cmp k (behind pages i)
        → AreBelow cmp k (take (flat pages i p) (entries_of pages)) → (0 < i → 0 < p) → WouldStandAt cmp pages k i p
    would_stand_last end later below first =
        let within : p ≤ length (page_at pages i) = omega arith in
        let Q : List (K × V) → Type 0 = AreAbove cmp k in
        let none : drop (flat pages i p) (entries_of pages) ≡ behind pages i =
        rest pages i inside p within ∙ ap (λ (l : List (K × V)). l ++ behind pages i) (drop_all p (page_at pages i) (omega arith)) in
        record {
          falls = λ some. record {
            inside = inside;
            from = λ positive. first_less (page_at pages i) p (first positive) (below_in within below);
            later = later;
          };
          within = within;
          gap = record { inside = up_to pages i inside p within; below = below; above = subst Q (sym none) later };
        }
