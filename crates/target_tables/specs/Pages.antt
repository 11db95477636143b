-- The pages that hold a map's entries; for the map's own code.
use Rattle.std.specs.Prelude.{◌≡◌, ℕ, ◌+◌, ◌-◌, ◌*◌, ◌^◌, ◌<◌, ◌≤◌, Bool, false, List, [], ◌∷◌, length, take, drop, get_or, set, refl}
use Rattle.std.specs.declared.cmp.Ordering.{Ordering}
use Rattle.std.specs.List.{All, flat_map, insert}
use Rattle.std.specs.Coded.{Coded, code_by, coded×, coded_list, coded_ℕ}
use Rattle.std.specs.Ordering.{is_gt}
use Rattle.target_tables.specs.Rising.{AreAbove}
use Rattle.target_tables.specs.Places.{IsAt, IsGap}

-- pages in their order, and how many empty ones lie ready beside them
pub record Book (K R : Type 0) : Type 0 where
  pub pages : List (List (K × (ℕ × R)))
  pub spares : ℕ

-- a book is stored as the pair of its parts
abbrev pub book_code : {K R : Type 0} → Coded K → Coded R → Coded (Book K R)
book_code k r = code_by _ (coded× (coded_list (coded_list (coded× k (coded× coded_ℕ r)))) coded_ℕ) (λ b. (b.pages, b.spares)) (λ p. record { pages = p.0; spares = p.1 }) (λ _. refl)

module _ {X : Type 0} where
  -- the entries of pages, one page behind the other
  abbrev pub entries_of : List (List X) → List X
  entries_of pages = flat_map (λ page. page) pages

  -- page i
  abbrev pub page_at : List (List X) → ℕ → List X
  page_at pages i = get_or pages i []

  -- the place among all entries of the entry at place p of page i
  abbrev pub flat : List (List X) → ℕ → ℕ → ℕ
  flat pages i p = length (entries_of (take i pages)) + p

  -- a page has 1 to 128 entries
  pub record IsFull (page : List X) : Type 0 where
    pub least : 1 ≤ length page
    pub most : length page ≤ 128

  -- no page is empty, and none has more than 128 entries
  abbrev pub AreFull : List (List X) → Type 0
  AreFull = All IsFull

  -- pages within their limits, empty pages beside them, and in each of two lists places for all of them, so few that their entries can be counted
  pub record AreKept (pages spares : List (List X)) (count places spare_places : ℕ) : Type 0 where
    pub full : AreFull pages
    pub empty : All (λ (page : List X). page ≡ []) spares
    pub listed : count ≤ places
    pub spared : count ≤ spare_places
    pub few : count ≤ 2 ^ 56

  -- how many entries pages have past the 64 that a page keeps where it is split
  abbrev pub excess : List (List X) → ℕ
  excess [] = 0
  excess (page ∷ pages) = (length page - 64) + excess pages

  -- how many of the new keys that spare pages have places for are taken already; the first page of all takes a whole one
  abbrev pub owed : List (List X) → ℕ
  owed [] = 64
  owed (page ∷ pages) = excess (page ∷ pages)

  -- how many new keys spare pages serve for, whichever they are: a new key takes one page at most, and only each 64th takes one but for what is owed
  abbrev pub room_of : List (List X) → ℕ → ℕ
  room_of pages spares = spares + (63 * spares + 63 - owed pages)

  -- page i split in two, of which the first has its first n entries
  abbrev pub split_in_two : List (List X) → ℕ → ℕ → List (List X)
  split_in_two pages i n = insert (set pages i (take n (page_at pages i))) (i + 1) (drop n (page_at pages i))

module _ {K V : Type 0} (cmp : K → K → Ordering) where
  -- a page's first key is greater than k
  abbrev pub begins_past : K → List (K × V) → Bool
  begins_past k [] = false
  begins_past k (e ∷ page) = is_gt (cmp e.0 k)

  -- the key falls into page i: the last page whose first key is at most it, else the first page
  pub record FallsInto (pages : List (List (K × V))) (k : K) (i : ℕ) : Type 0 where
    pub inside : i < length pages
    pub from : 0 < i → begins_past k (page_at pages i) ≡ false
    pub later : AreAbove cmp k (entries_of (drop (i + 1) pages))

  -- the key falls into the page at low or into a later one before high
  pub record IsSpan (pages : List (List (K × V))) (k : K) (low high : ℕ) : Type 0 where
    pub some : low < high
    pub inside : high ≤ length pages
    pub from : 0 < low → begins_past k (page_at pages low) ≡ false
    pub later : AreAbove cmp k (entries_of (drop high pages))

  -- the key stands at place p of page i, into which it falls
  pub record StandsAt (pages : List (List (K × V))) (k : K) (i p : ℕ) : Type 0 where
    pub falls : FallsInto pages k i
    pub within : p < length (page_at pages i)
    pub at : IsAt cmp (entries_of pages) k (flat pages i p)

  -- no entry has the key, which would stand at place p of page i, into which it falls, or in the first page of all
  pub record WouldStandAt (pages : List (List (K × V))) (k : K) (i p : ℕ) : Type 0 where
    pub falls : 0 < length pages → FallsInto pages k i
    pub within : p ≤ length (page_at pages i)
    pub gap : IsGap cmp (entries_of pages) k (flat pages i p)
