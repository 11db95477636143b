-- A full page split in two, and a new entry put into its page.
use Rattle.std.proofs.Common.{◌≡◌, ℕ, ◌+◌, ◌-◌, ◌<◌, ◌≤◌, ◌==◌, false, List, [], ◌∷◌, ◌++◌, length, take, drop, get_or, set, sym, ap, ◌∙◌, append-nil, arith}
use borrow.Author.Tests.{eqb-false}
use Rattle.std.proofs.lemmas.List.{get_or_default, drop_all, take_all, take_more, append_assoc, take-append-drop, take-append-le, take-take, take-set, take_at, take_more_set, drop-set-lt, length-append, length-take-le, length-set, get_or-set_same}
use Rattle.std.proofs.lemmas.List.Concat.{flat_map-append}
use Rattle.std.proofs.lemmas.List.Edits.{length-insert, insert_end, get_or-insert_below, get_or-insert_at}
use Rattle.std.specs.List.{insert}
use Rattle.target_tables.specs.Pages.{entries_of, page_at, flat, owed, room_of, split_in_two}
use Rattle.target_tables.proofs.Paging.{before, behind, parts, inserted, read, front, rest}
use Rattle.target_tables.proofs.Rooms.{owed_set, owed_split, owed_least, lower_size, upper_size, length_split}

module _ {X : Type 0} where
  -- a page of what is read where there is one
  pub page_inside : (pages seen : List (List X)) (i : ℕ) → seen ≡ pages → false ≡ (length seen == 0) → (0 < length pages → i < length pages) → i < length pages
  page_inside pages seen i same some inside =
      let positive : length seen ≡ 0 → ⊥ = eqb-false (length seen) 0 (sym some) in
      let n : length seen ≡ length pages = ap length same in
      inside (omega arith)

  pub page_read : (pages seen : List (List X)) (i : ℕ) (x : List X) → seen ≡ pages → i < length pages → x ≡ get_or seen i x → x ≡ page_at pages i
  page_read pages seen i x same inside is = is ∙ ap (λ (l : List (List X)). get_or l i x) same ∙ get_or_default pages i x [] inside

  -- an entry that is read in a page
  pub entry_read : (pages : List (List X)) (i : ℕ) (inside : i < length pages) (p : ℕ) (page : List X) (x : X) → p < length (page_at pages i) → page ≡ page_at pages i → x ≡ get_or page p x
      → x ≡ get_or (entries_of pages) (flat pages i p) x
  entry_read pages i inside p page x within same is = is ∙ ap (λ (l : List X). get_or l p x) same ∙ sym (read pages i inside p within x)

  -- behind the last page's last entry
  pub at_end : (pages : List (List X)) (i p : ℕ) → i + 1 ≡ length pages → p ≡ length (page_at pages i) → (e : X) → insert (entries_of pages) (flat pages i p) e ≡ entries_of pages ++ e ∷ []
  at_end pages i p last whole e =
      let inside : i < length pages = omega arith in
      let a : length (entries_of pages) ≡ length (before pages i) + length (page_at pages i ++ behind pages i) = ap length (parts pages i inside) ∙ length-append (before pages i) (page_at pages i ++ behind pages i) in
      let b : length (page_at pages i ++ behind pages i) ≡ length (page_at pages i) + length (behind pages i) = length-append (page_at pages i) (behind pages i) in
      let none : length (behind pages i) ≡ 0 = ap (λ (l : List (List X)). length (entries_of l)) (drop_all (i + 1) pages (omega arith)) in
      let end : flat pages i p ≡ length (entries_of pages) = omega arith in
      ap (λ n. insert (entries_of pages) n e) end ∙ insert_end (entries_of pages) e

  pub page_end : (pages seen : List (List X)) (i : ℕ) (x : List X) (p : ℕ) → seen ≡ pages → i < length pages → x ≡ get_or seen i x → p ≡ length x → p ≡ length (page_at pages i)
  page_end pages seen i x p same inside is n = n ∙ ap length (page_read pages seen i x same inside is)

  -- room as it is seen elsewhere
  pub room_as : (new pages : List (List X)) (s t n : ℕ) → new ≡ pages → s ≡ t → n ≤ room_of pages t → n ≤ room_of new s
  room_as new pages s t n same spares h =
      let r : room_of new s ≡ room_of pages t = ap (λ (l : List (List X)). room_of l s) same ∙ ap (λ m. room_of pages m) spares in
      omega arith

  module _ (pages : List (List X)) (i : ℕ) (inside : i < length pages) where
    -- one entry more in a page
    pub room_put : (p : ℕ) (e : X) → p ≤ length (page_at pages i) → (s n : ℕ) → n + 1 ≤ room_of pages s → n ≤ room_of (set pages i (insert (page_at pages i) p e)) s
    room_put p e within s n h =
        let l : length (insert (page_at pages i) p e) ≡ length (page_at pages i) + 1 = length-insert (page_at pages i) p e within in
        let o : owed (set pages i (insert (page_at pages i) p e)) + (length (page_at pages i) - 64) ≡ owed pages + (length (insert (page_at pages i) p e) - 64) = owed_set pages i inside (insert (page_at pages i) p e) in
        omega arith

    -- a spare page is there for a full page
    pub spare_for : length (page_at pages i) ≡ 128 → (s : ℕ) → 1 ≤ room_of pages s → 0 < s
    spare_for size s h = let o : length (page_at pages i) - 64 ≤ owed pages = owed_least pages i inside in omega arith

    -- an entry in a page of its own behind a full one
    pub begun : length (page_at pages i) ≡ 128 → (p : ℕ) (e : X) → p ≡ 128 → entries_of (insert pages (i + 1) (e ∷ [])) ≡ insert (entries_of pages) (flat pages i p) e
    begun size p e whole =
        let within : p ≤ length (page_at pages i) = omega arith in
        let all : take p (page_at pages i) ≡ page_at pages i = take_all p (page_at pages i) (omega arith) in
        let none : drop p (page_at pages i) ≡ [] = drop_all p (page_at pages i) (omega arith) in
        let upto : entries_of (take (i + 1) pages) ≡ before pages i ++ page_at pages i =
        ap (λ (l : List (List X)). entries_of l) (take_more pages i [] inside)
        ∙ flat_map-append (λ (page : List X). page) (take i pages) (page_at pages i ∷ [])
        ∙ ap (λ (l : List X). before pages i ++ l) (append-nil (page_at pages i)) in
        flat_map-append (λ (page : List X). page) (take (i + 1) pages) ((e ∷ []) ∷ drop (i + 1) pages)
        ∙ ap (λ (l : List X). l ++ e ∷ behind pages i) (upto ∙ ap (λ (l : List X). before pages i ++ l) (sym all) ∙ sym (front pages i inside p within))
        ∙ ap (λ (l : List X). take (flat pages i p) (entries_of pages) ++ e ∷ l) (ap (λ (l : List X). l ++ behind pages i) (sym none) ∙ sym (rest pages i inside p within))

    module _ (size : length (page_at pages i) ≡ 128) (n : ℕ) (some : 0 < n) (less : n < 128) where
      abbrev lower : List X
      lower = take n (page_at pages i)

      abbrev upper : List X
      upper = drop n (page_at pages i)

      abbrev halved : List (List X)
      halved = set pages i lower

      in_halved : i + 1 ≤ length halved
      in_halved = let m : length halved ≡ length pages = length-set pages i lower in omega arith

      pub lower_there : page_at (split_in_two pages i n) i ≡ lower
      lower_there = get_or-insert_below halved (i + 1) upper [] i (omega arith) in_halved ∙ get_or-set_same pages i lower [] inside

      pub upper_there : page_at (split_in_two pages i n) (i + 1) ≡ upper
      upper_there = get_or-insert_at halved (i + 1) upper [] in_halved

      to_lower : take (i + 1) (split_in_two pages i n) ≡ take i pages ++ lower ∷ []
      to_lower = take_at (take (i + 1) halved) (upper ∷ drop (i + 1) halved) (i + 1) (length-take-le (i + 1) halved in_halved) ∙ take_more_set pages i lower inside

      before_lower : take i (split_in_two pages i n) ≡ take i pages
      before_lower =
          let m : length (take (i + 1) halved) ≡ i + 1 = length-take-le (i + 1) halved in_halved in
          take-append-le i (take (i + 1) halved) (upper ∷ drop (i + 1) halved) (omega arith)
          ∙ take-take i (i + 1) halved (omega arith)
          ∙ take-set pages i lower

      with_lower : entries_of (take i pages ++ lower ∷ []) ≡ before pages i ++ lower
      with_lower = flat_map-append (λ (page : List X). page) (take i pages) (lower ∷ []) ∙ ap (λ (l : List X). before pages i ++ l) (append-nil lower)

      -- splitting keeps the entries
      pub entries_split : entries_of (split_in_two pages i n) ≡ entries_of pages
      entries_split =
          flat_map-append (λ (page : List X). page) (take (i + 1) halved) (upper ∷ drop (i + 1) halved)
          ∙ ap (λ (l : List (List X)). entries_of l ++ (upper ++ entries_of (drop (i + 1) halved))) (take_more_set pages i lower inside)
          ∙ ap (λ (l : List X). l ++ (upper ++ entries_of (drop (i + 1) halved))) with_lower
          ∙ ap (λ (l : List (List X)). (before pages i ++ lower) ++ (upper ++ entries_of l)) (drop-set-lt (i + 1) pages i lower (omega arith))
          ∙ append_assoc (before pages i) lower (upper ++ behind pages i)
          ∙ ap (λ (l : List X). before pages i ++ l) (sym (append_assoc lower upper (behind pages i)))
          ∙ ap (λ (l : List X). before pages i ++ (l ++ behind pages i)) (take-append-drop n (page_at pages i))
          ∙ sym (parts pages i inside)

      in_split : i + 1 < length (split_in_two pages i n)
      in_split = let m : length (split_in_two pages i n) ≡ length pages + 1 = length_split pages i inside size n some less in omega arith

      pub split_inside : i < length (split_in_two pages i n)
      split_inside = let l : i + 1 < length (split_in_two pages i n) = in_split in omega arith

      pub split_next : i + 1 < length (split_in_two pages i n)
      split_next = in_split

      pub lower_length : length (page_at (split_in_two pages i n) i) ≡ n
      lower_length = ap length lower_there ∙ lower_size pages i inside size n some less

      pub upper_length : length (page_at (split_in_two pages i n) (i + 1)) + n ≡ 128
      upper_length = ap (λ (l : List X). length l + n) upper_there ∙ upper_size pages i inside size n some less

      -- an entry put into the first of both
      pub into_lower : (p : ℕ) (e : X) → p ≤ n
          → entries_of (set (split_in_two pages i n) i (insert (page_at (split_in_two pages i n) i) p e)) ≡ insert (entries_of pages) (flat pages i p) e
      into_lower p e most =
          let m : length (page_at (split_in_two pages i n) i) ≡ n = lower_length in
          inserted (split_in_two pages i n) i split_inside p (omega arith) e
          ∙ ap (λ (l : List (List X)). insert (entries_of (split_in_two pages i n)) (length (entries_of l) + p) e) before_lower
          ∙ ap (λ (l : List X). insert l (flat pages i p) e) entries_split

      -- and into the second
      pub into_upper : (p : ℕ) (e : X) → n ≤ p → p ≤ 128
          → entries_of (set (split_in_two pages i n) (i + 1) (insert (page_at (split_in_two pages i n) (i + 1)) (p - n) e)) ≡ insert (entries_of pages) (flat pages i p) e
      into_upper p e most all =
          let m : length (page_at (split_in_two pages i n) (i + 1)) + n ≡ 128 = upper_length in
          let l : length lower ≡ n = lower_size pages i inside size n some less in
          let a : length (before pages i ++ lower) ≡ length (before pages i) + length lower = length-append (before pages i) lower in
          let b : length (entries_of (take (i + 1) (split_in_two pages i n))) ≡ length (before pages i ++ lower) = ap (λ (l : List (List X)). length (entries_of l)) to_lower ∙ ap length with_lower in
          let place : flat (split_in_two pages i n) (i + 1) (p - n) ≡ flat pages i p = omega arith in
          inserted (split_in_two pages i n) (i + 1) in_split (p - n) (omega arith) e
          ∙ ap (λ m. insert (entries_of (split_in_two pages i n)) m e) place
          ∙ ap (λ (l : List X). insert l (flat pages i p) e) entries_split

      -- split in halves, with a spare page less and an entry more there is room for one new key less
      pub room_split : n ≡ 64 → (j p : ℕ) (e : X) → j < length (split_in_two pages i n) → length (page_at (split_in_two pages i n) j) ≡ 64 → p ≤ 64 → (old new m : ℕ) → new + 1 ≡ old → m + 1 ≤ room_of pages old
          → m ≤ room_of (set (split_in_two pages i n) j (insert (page_at (split_in_two pages i n) j) p e)) new
      room_split even j p e there half within old new m one h =
          let l : length (insert (page_at (split_in_two pages i n) j) p e) ≡ length (page_at (split_in_two pages i n) j) + 1 = length-insert (page_at (split_in_two pages i n) j) p e (omega arith) in
          let o : owed (set (split_in_two pages i n) j (insert (page_at (split_in_two pages i n) j) p e)) + (length (page_at (split_in_two pages i n) j) - 64) ≡ owed (split_in_two pages i n) + (length (insert (page_at (split_in_two pages i n) j) p e) - 64) =
          owed_set (split_in_two pages i n) j there (insert (page_at (split_in_two pages i n) j) p e) in
          let s : owed (split_in_two pages i n) + 64 ≡ owed pages = owed_split pages i inside size n some less even in
          omega arith
