-- One step of putting rising changes into an open page.
use Rattle.std.proofs.Common.{◌≡◌, ℕ, ◌+◌, ◌-◌, ◌<◌, ◌≤◌, List, [], ◌∷◌, ◌++◌, Option, Some, length, take, drop, get_or, set, reverse, sym, ap, subst, ◌∙◌, arith}
use Rattle.std.proofs.lemmas.List.{get_or_default, get_or-set_same, length-set, take_at}
use Rattle.std.specs.declared.cmp.Ordering.{Ordering}
use Rattle.std.specs.Cmp.{IsTotalOrder}
use Rattle.target_tables.specs.Rising.{AreBelow, AreAbove}
use Rattle.target_tables.specs.Pages.{entries_of, page_at}
use Rattle.target_tables.specs.Private.Runs.{IsOpen, MergesOn}
use Rattle.target_tables.proofs.Committing.{taken_apart}
use Rattle.target_tables.proofs.Opening.{merges_passed, merges_put, merges_then}

module _ {K R : Type 0} {cmp : K → K → Ordering} (o : IsTotalOrder cmp) (stream i : ℕ) (pages : List (List (K × (ℕ × R)))) (over : List (K × (ℕ × R))) (xs : List (K × Option R)) (n : ℕ) (x : K × Option R) where
  module _ (some : 0 < n) (most : n ≤ length xs) (is : x ≡ get_or xs (n - 1) x) (fit : IsOpen cmp pages i over (take n xs)) (q above p : List (K × (ℕ × R))) (there : p ≡ page_at pages i) where
    module _ (same : q ++ reverse above ≡ p ++ reverse over) (count : length q + length above ≡ length p + length over) (below : AreBelow cmp x.0 p → AreBelow cmp x.0 q) where
      left : List (K × Option R)
      left = take (n - 1) xs

      parts : take n xs ≡ take (n - 1) xs ++ x ∷ []
      parts = taken_apart xs n x some most is

      -- the lesser entries are moved back
      pub passed : MergesOn cmp stream i pages over (take n xs) (set pages i q) above (take n xs)
      passed =
          let P : List (K × Option R) → Type 0 = λ l. MergesOn cmp stream i pages over l (set pages i q) above l in
          let F : List (K × Option R) → Type 0 = λ l. IsOpen cmp pages i over l in
          let B : List (K × (ℕ × R)) → Type 0 = AreBelow cmp x.0 in
          let size : length p ≡ length (page_at pages i) = ap length there in
          subst P (sym parts)
          (merges_passed o stream i pages (take (n - 1) xs) x over (subst F parts fit) q above (same ∙ ap (λ (l : List (K × (ℕ × R))). l ++ reverse over) there) (omega (arith, count, size)) (λ h. below (subst B (sym there) h)))

      -- and the row is put behind them
      pub put_behind : (row : R) → x.1 ≡ Some row → length p + length over < 128 → AreAbove cmp x.0 (reverse above ++ entries_of (drop (i + 1) (set pages i q)))
          → (r : List (K × (ℕ × R))) → r ≡ page_at (set pages i q) i ++ (x.0, (stream, row)) ∷ [] → (rest : List (K × Option R)) → rest ≡ take (n - 1) xs
          → MergesOn cmp stream i pages over (take n xs) (set (set pages i q) i r) above rest
      put_behind row row_is room greatest r r_is rest rest_is =
          let mid : List (List (K × (ℕ × R))) = set pages i q in
          let F : List (K × Option R) → Type 0 = λ l. IsOpen cmp mid i above l in
          let size : length (page_at mid i) ≡ length q = ap length (get_or-set_same pages i q [] fit.inside) in
          let end : List (K × (ℕ × R)) = page_at mid i ++ (x.0, (stream, row)) ∷ [] in
          let P : List (K × Option R) → Type 0 = λ l. MergesOn cmp stream i mid above l (set mid i end) above (take (n - 1) xs) in
          let Q : List (K × (ℕ × R)) → Type 0 = λ t. MergesOn cmp stream i mid above (take n xs) (set mid i t) above (take (n - 1) xs) in
          let S : List (K × Option R) → Type 0 = λ l. MergesOn cmp stream i mid above (take n xs) (set mid i r) above l in
          let next : MergesOn cmp stream i mid above (take (n - 1) xs ++ x ∷ []) (set mid i end) above (take (n - 1) xs) =
          merges_put o stream i mid (take (n - 1) xs) x above (subst F parts passed.fit) row row_is (omega (arith, size, count, room)) greatest in
          merges_then o stream i pages mid (set mid i r) over above above (take n xs) (take n xs) rest passed (subst S (sym rest_is) (subst Q (sym r_is) (subst P (sym parts) next)))

-- ---- the list of pages as it is lent and taken back

module _ {K R : Type 0} (cmp : K → K → Ordering) (stream i : ℕ) (all lent now : List (List (K × (ℕ × R)))) (page aside above : List (K × (ℕ × R))) (changes left : List (K × Option R)) where
  module _ (is : lent ≡ set all i page) (merges : MergesOn cmp stream i lent aside changes now above left) (n : ℕ) (many : n ≡ length all) (tail : List (List (K × (ℕ × R)))) where
    same_length : length now ≡ length all
    same_length =
        let a : length now ≡ length (set lent i (page_at now i)) = ap length merges.same in
        let b : length (set lent i (page_at now i)) ≡ length lent = length-set lent i (page_at now i) in
        let c : length lent ≡ length (set all i page) = ap length is in
        let d : length (set all i page) ≡ length all = length-set all i page in
        omega (arith, a, b, c, d)

    taken_back : take n (now ++ tail) ≡ now
    taken_back = let l : length now ≡ length all = same_length in take_at now tail n (omega (arith, l, many))

    pub read_back : i < length all → (r : List (K × (ℕ × R))) → r ≡ get_or (take n (now ++ tail)) i r → r ≡ page_at now i
    read_back inside r h =
        let l : length now ≡ length all = same_length in
        h ∙ ap (λ (l : List (List (K × (ℕ × R)))). get_or l i r) taken_back ∙ get_or_default now i r [] (omega (arith, l, inside))

    pub set_back : i < length all → (r w : List (K × (ℕ × R))) → r ≡ get_or (take n (now ++ tail)) i r → w ≡ r ++ reverse above → set (take n (now ++ tail)) i w ≡ set now i (page_at now i ++ reverse above)
    set_back inside r w h whole =
        ap (λ (l : List (List (K × (ℕ × R)))). set l i w) taken_back
        ∙ ap (λ (l : List (K × (ℕ × R))). set now i l) (whole ∙ ap (λ (l : List (K × (ℕ × R))). l ++ reverse above) (read_back inside r h))
