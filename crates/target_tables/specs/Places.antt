-- Where a key stands among rising entries, or would stand; for the map's own code.
use Rattle.std.specs.Prelude.{◌≡◌, ℕ, ◌+◌, ◌<◌, ◌≤◌, List, length, take, drop}
use Rattle.std.specs.declared.cmp.Ordering.{Ordering}
use Rattle.std.specs.declared.cmp.Ordering.TheVariants.{Equal}
use Rattle.std.specs.List.{HoldsAt}
use Rattle.target_tables.specs.Rising.{AreBelow, AreAbove}

module _ {K V : Type 0} (cmp : K → K → Ordering) where
  -- the entry at place i has the key
  pub record IsAt (entries : List (K × V)) (k : K) (i : ℕ) : Type 0 where
    pub inside : i < length entries
    pub below : AreBelow cmp k (take i entries)
    pub here : HoldsAt (λ e. cmp e.0 k ≡ Equal) entries i
    pub above : AreAbove cmp k (drop (i + 1) entries)

  -- no entry has the key, which would stand at place i
  pub record IsGap (entries : List (K × V)) (k : K) (i : ℕ) : Type 0 where
    pub inside : i ≤ length entries
    pub below : AreBelow cmp k (take i entries)
    pub above : AreAbove cmp k (drop i entries)
