-- Changes made one after another, and those that fall into one page together.
use Rattle.std.specs.Prelude.{◌≡◌, ℕ, ◌+◌, ◌<◌, ◌≤◌, List, ◌++◌, length, take, drop, set, reverse, Option}
use Rattle.std.specs.declared.cmp.Ordering.{Ordering}
use Rattle.std.specs.List.{AllByRecursion}
use Rattle.std.specs.Ordering.{flip_args}
use Rattle.target_tables.specs.Contents.{value_at}
use Rattle.target_tables.specs.Rising.{IsRising, AreAbove}
use Rattle.target_tables.specs.Pages.{entries_of, page_at, flat}
use Rattle.target_tables.specs.Touches.{change_at, touched, new_keys}

module _ {X : Type 0} where
  -- the entries before an open page and in it
  abbrev pub lower_part : List (List X) → ℕ → List X
  lower_part pages i = entries_of (take i pages) ++ page_at pages i

  -- the entries of pages of which page i is open: those behind a place in it lie apart, the other way round
  abbrev pub opened : List (List X) → ℕ → List X → List X
  opened pages i above = entries_of (take i pages) ++ (page_at pages i ++ (reverse above ++ entries_of (drop (i + 1) pages)))

module _ {K R : Type 0} (cmp : K → K → Ordering) where
  -- the changes that are left lead from here to where all lead from the start
  pub record Leads (old : List (K × (ℕ × R))) (stream : ℕ) (all left : List (K × Option R)) (now : List (K × (ℕ × R))) : Type 0 where
    pub falling : IsRising (flip_args cmp) left
    pub same : (k : K) → touched stream (change_at cmp left k) (value_at cmp now k) ≡ touched stream (change_at cmp all k) (value_at cmp old k)

  -- at place p of page i, before which all keys are less than those of the changes that are left
  pub record IsStart (pages : List (List (K × (ℕ × R)))) (i p : ℕ) (left : List (K × Option R)) : Type 0 where
    pub inside : i < length pages
    pub within : p ≤ length (page_at pages i)
    pub front : AllByRecursion (λ e. AreAbove cmp e.0 left) (take (flat pages i p) (entries_of pages))

  -- page i is open, and the keys of the changes that are left are greater than all before the place
  pub record IsOpen (pages : List (List (K × (ℕ × R)))) (i : ℕ) (above : List (K × (ℕ × R))) (left : List (K × Option R)) : Type 0 where
    pub inside : i < length pages
    pub rising : IsRising cmp (opened pages i above)
    pub falling : IsRising (flip_args cmp) left
    pub front : AllByRecursion (λ e. AreAbove cmp e.0 left) (lower_part pages i)
    pub most : length (page_at pages i) + length above ≤ 128

  -- changes were put into the open page i, each at a new key, and the others are left
  pub record MergesOn (stream i : ℕ) (old : List (List (K × (ℕ × R)))) (over : List (K × (ℕ × R))) (all : List (K × Option R)) (now : List (List (K × (ℕ × R)))) (above : List (K × (ℕ × R))) (left : List (K × Option R)) : Type 0 where
    pub fit : IsOpen now i above left
    pub leads : Leads (opened old i over) stream all left (opened now i above)
    pub count : new_keys cmp (opened now i above) left + (length (page_at now i) + length above) ≡ new_keys cmp (opened old i over) all + (length (page_at old i) + length over)
    pub more : length (page_at old i) + length over ≤ length (page_at now i) + length above
    pub same : now ≡ set old i (page_at now i)
