-- What pages owe of the room that spare ones give, and that pages keep within their limits.
use Rattle.std.proofs.Common.{◌≡◌, ℕ, ◌+◌, ◌-◌, ◌*◌, ◌<◌, ◌≤◌, ◌==◌, List, [], ◌∷◌, ◌++◌, length, take, drop, set, refl, sym, ap, ◌∙◌, add_assoc, suc, arith}
use Rattle.std.proofs.lemmas.Bool.{ne_eqb}
use Rattle.std.proofs.lemmas.List.{take-append-drop, drop_more, length-take-le, length-drop, length-set, length-append}
use Rattle.std.proofs.lemmas.List.Elements.{All-append, All-take, All-drop, All-cons, All-set}
use Rattle.std.specs.List.{insert, remove}
use Rattle.target_tables.specs.Pages.{entries_of, page_at, excess, owed, room_of, split_in_two, IsFull, AreFull}
use Rattle.target_tables.proofs.Placed.{set-parts, remove-parts}

module _ {X : Type 0} where
  excess-append : (xs ys : List (List X)) → excess (xs ++ ys) ≡ excess xs + excess ys
  excess-append [] ys = omega arith
  excess-append (x ∷ xs) ys = ap (λ n. length x - 64 + n) (excess-append xs ys) ∙ sym (add_assoc (length x - 64) (excess xs) (excess ys))

  owed_is : (pages : List (List X)) → 0 < length pages → owed pages ≡ excess pages
  owed_is [] some = absurd (omega arith)
  owed_is (x ∷ pages) some = refl

  excess_most : (pages : List (List X)) → AreFull pages → excess pages ≤ 64 * length pages
  excess_most [] full = omega arith
  excess_most (x ∷ pages) full =
      let first : IsFull x = full 0 [] (omega arith) in
      let most : length x ≤ 128 = first.most in
      let later : excess pages ≤ 64 * length pages = excess_most pages (λ k d l. full (suc k) d (omega arith)) in
      omega arith

  -- no page owes more than 64 places
  pub owed_most : (pages : List (List X)) → AreFull pages → owed pages ≤ 64 * (length pages + 1)
  owed_most [] full = omega arith
  owed_most (x ∷ pages) full =
      let most : excess (x ∷ pages) ≤ 64 * length (x ∷ pages) = excess_most (x ∷ pages) full in
      omega arith

  -- how many entries pages have at most
  pub length_most : (pages : List (List X)) → AreFull pages → length (entries_of pages) ≤ 128 * length pages
  length_most [] full = omega arith
  length_most (x ∷ pages) full =
      let first : IsFull x = full 0 [] (omega arith) in
      let most : length x ≤ 128 = first.most in
      let later : length (entries_of pages) ≤ 128 * length pages = length_most pages (λ k d l. full (suc k) d (omega arith)) in
      let n : length (x ++ entries_of pages) ≡ length x + length (entries_of pages) = length-append x (entries_of pages) in
      omega arith

  -- where there is a page there is an entry
  pub none_same : (pages : List (List X)) → AreFull pages → (length pages == 0) ≡ (length (entries_of pages) == 0)
  none_same [] full = refl
  none_same (x ∷ pages) full =
      let first : IsFull x = full 0 [] (omega arith) in
      let least : 1 ≤ length x = first.least in
      let n : length (x ++ entries_of pages) ≡ length x + length (entries_of pages) = length-append x (entries_of pages) in
      ne_eqb (length (x ∷ pages)) 0 (λ e. absurd (omega arith)) ∙ sym (ne_eqb (length (x ++ entries_of pages)) 0 (λ e. absurd (omega arith)))

  -- a page more, of so many entries
  pub full_with : (pages : List (List X)) (i : ℕ) (q : List X) → IsFull q → AreFull pages → AreFull (insert pages i q)
  full_with pages i q limits full = All-append IsFull (take i pages) (q ∷ drop i pages) (All-take IsFull i pages full) (All-cons IsFull q (drop i pages) limits (All-drop IsFull i pages full))

  -- the room that spare pages give beside so many pages, whatever these have
  pub room_beside : (pages : List (List X)) → AreFull pages → (s count result : ℕ) → ((owed : ℕ) → owed ≤ 64 * (length pages + 1) → count ≤ result + (63 * result + 63 - owed)) → result ≤ s → count ≤ room_of pages s
  room_beside pages full s count result h enough =
      let most : owed pages ≤ 64 * (length pages + 1) = owed_most pages full in
      let n : count ≤ result + (63 * result + 63 - owed pages) = h (owed pages) most in
      omega arith

  module _ (pages : List (List X)) (i : ℕ) (inside : i < length pages) where
    excess_parts : excess pages ≡ excess (take i pages) + (length (page_at pages i) - 64 + excess (drop (i + 1) pages))
    excess_parts =
        ap (λ (l : List (List X)). excess l) (sym (take-append-drop i pages))
        ∙ excess-append (take i pages) (drop i pages)
        ∙ ap (λ (l : List (List X)). excess (take i pages) + excess l) (drop_more pages i [] inside)

    excess_set : (q : List X) → excess (set pages i q) ≡ excess (take i pages) + (length q - 64 + excess (drop (i + 1) pages))
    excess_set q = ap (λ (l : List (List X)). excess l) (set-parts pages i q inside) ∙ excess-append (take i pages) (q ∷ drop (i + 1) pages)

    excess_removed : excess (remove pages i) ≡ excess (take i pages) + excess (drop (i + 1) pages)
    excess_removed = ap (λ (l : List (List X)). excess l) (remove-parts pages i) ∙ excess-append (take i pages) (drop (i + 1) pages)

    -- a page past 64 entries is owed for
    pub owed_least : length (page_at pages i) - 64 ≤ owed pages
    owed_least = let n : owed pages ≡ excess pages = owed_is pages (omega arith) in let m : excess pages ≡ excess (take i pages) + (length (page_at pages i) - 64 + excess (drop (i + 1) pages)) = excess_parts in omega arith

    -- a page of so many entries in place of another
    pub owed_set : (q : List X) → owed (set pages i q) + (length (page_at pages i) - 64) ≡ owed pages + (length q - 64)
    owed_set q =
        let n : owed pages ≡ excess pages = owed_is pages (omega arith) in
        let l : length (set pages i q) ≡ length pages = length-set pages i q in
        let k : owed (set pages i q) ≡ excess (set pages i q) = owed_is (set pages i q) (omega arith) in
        let a : excess pages ≡ excess (take i pages) + (length (page_at pages i) - 64 + excess (drop (i + 1) pages)) = excess_parts in
        let b : excess (set pages i q) ≡ excess (take i pages) + (length q - 64 + excess (drop (i + 1) pages)) = excess_set q in
        omega arith

    -- with one entry more a page owes at most one place more
    pub room_set : (q : List X) → length q ≤ length (page_at pages i) → (s : ℕ) → room_of pages s ≤ room_of (set pages i q) s
    room_set q fewer s = let e : owed (set pages i q) + (length (page_at pages i) - 64) ≡ owed pages + (length q - 64) = owed_set q in omega arith

    pub room_removed : 0 < length (remove pages i) → (s : ℕ) → room_of pages s ≤ room_of (remove pages i) s
    room_removed some s =
        let n : owed pages ≡ excess pages = owed_is pages (omega arith) in
        let k : owed (remove pages i) ≡ excess (remove pages i) = owed_is (remove pages i) some in
        let a : excess pages ≡ excess (take i pages) + (length (page_at pages i) - 64 + excess (drop (i + 1) pages)) = excess_parts in
        let b : excess (remove pages i) ≡ excess (take i pages) + excess (drop (i + 1) pages) = excess_removed in
        omega arith

    pub full_removed : AreFull pages → AreFull (remove pages i)
    full_removed full = All-append IsFull (take i pages) (drop (suc i) pages) (All-take IsFull i pages full) (All-drop IsFull (suc i) pages full)

    module _ (size : length (page_at pages i) ≡ 128) (n : ℕ) (some : 0 < n) (less : n < 128) where
      abbrev lower : List X
      lower = take n (page_at pages i)

      abbrev upper : List X
      upper = drop n (page_at pages i)

      pub lower_size : length lower ≡ n
      lower_size = length-take-le n (page_at pages i) (omega arith)

      pub upper_size : length upper + n ≡ 128
      upper_size = let d : length upper ≡ length (page_at pages i) - n = length-drop n (page_at pages i) in omega arith

      pub full_split : AreFull pages → AreFull (split_in_two pages i n)
      full_split full =
          let l : length lower ≡ n = lower_size in
          let u : length upper + n ≡ 128 = upper_size in
          let s : AreFull (set pages i lower) = All-set IsFull pages i lower (record { least = omega arith; most = omega arith }) full in
          All-append IsFull (take (i + 1) (set pages i lower)) (upper ∷ drop (i + 1) (set pages i lower)) (All-take IsFull (i + 1) (set pages i lower) s)
          (All-cons IsFull upper (drop (i + 1) (set pages i lower)) (record { least = omega arith; most = omega arith }) (All-drop IsFull (i + 1) (set pages i lower) s))

      pub length_split : length (split_in_two pages i n) ≡ length pages + 1
      length_split =
          let m : length (set pages i lower) ≡ length pages = length-set pages i lower in
          let a : length (split_in_two pages i n) ≡ length (take (i + 1) (set pages i lower)) + length (upper ∷ drop (i + 1) (set pages i lower)) =
          length-append (take (i + 1) (set pages i lower)) (upper ∷ drop (i + 1) (set pages i lower)) in
          let t : length (take (i + 1) (set pages i lower)) ≡ i + 1 = length-take-le (i + 1) (set pages i lower) (omega arith) in
          let d : length (drop (i + 1) (set pages i lower)) ≡ length (set pages i lower) - (i + 1) = length-drop (i + 1) (set pages i lower) in
          omega arith

      -- pages split in halves owe 64 places less
      pub owed_split : n ≡ 64 → owed (split_in_two pages i n) + 64 ≡ owed pages
      owed_split half =
          let l : length lower ≡ n = lower_size in
          let u : length upper + n ≡ 128 = upper_size in
          let c : length (split_in_two pages i n) ≡ length pages + 1 = length_split in
          let k : owed (split_in_two pages i n) ≡ excess (split_in_two pages i n) = owed_is (split_in_two pages i n) (omega arith) in
          let m : length (set pages i lower) ≡ length pages = length-set pages i lower in
          let h : owed (set pages i lower) ≡ excess (set pages i lower) = owed_is (set pages i lower) (omega arith) in
          let e : owed (set pages i lower) + (length (page_at pages i) - 64) ≡ owed pages + (length lower - 64) = owed_set lower in
          let a : excess (split_in_two pages i n) ≡ excess (take (i + 1) (set pages i lower)) + (length upper - 64 + excess (drop (i + 1) (set pages i lower))) =
          excess-append (take (i + 1) (set pages i lower)) (upper ∷ drop (i + 1) (set pages i lower)) in
          let b : excess (set pages i lower) ≡ excess (take (i + 1) (set pages i lower)) + excess (drop (i + 1) (set pages i lower)) =
          ap (λ (l : List (List X)). excess l) (sym (take-append-drop (i + 1) (set pages i lower))) ∙ excess-append (take (i + 1) (set pages i lower)) (drop (i + 1) (set pages i lower)) in
          omega arith
