-- Key ranges that lie end to end over all keyspace ids.
use Rattle.std.specs.Prelude.{◌≡◌, ℕ, List, [], ◌∷◌, ◌++◌, map, None, Some, IsTrue, slice_get}
use Rattle.vindex.specs.Bounds.{Bounds, in_range}

-- The ranges' starts, and after them the open end, are the open start and after it the ranges' ends:
-- so there is a range, the first start and the last end are open, and each other end is the start of
-- the next range.
abbrev pub Tiles : List Bounds → Type 0
Tiles ranges = map (λ range. Some range.start) ranges ++ None ∷ [] ≡ Some [] ∷ map (λ range. range.end) ranges

-- one place in the list, and no other, has a range with this id
pub record IsInOneRange (ranges : List Bounds) (id : List ℕ) : Type 0 where
  pub place : ℕ
  pub range : Bounds
  pub stands : slice_get ranges place ≡ Some range
  pub has_id : IsTrue (in_range range id)
  pub alone : (other : ℕ) (bounds : Bounds) → slice_get ranges other ≡ Some bounds → IsTrue (in_range bounds id) → other ≡ place

-- every byte string is in one of the ranges, and only there: no gap and no overlap
abbrev pub SplitsAllIds : List Bounds → Type 0
SplitsAllIds ranges = (id : List ℕ) → IsInOneRange ranges id
