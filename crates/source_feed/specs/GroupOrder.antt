-- What is true of the groups of every feed, whole: how they are numbered, and how their positions grow.
use Rattle.std.specs.Prelude.{◌≡◌, ℕ, ◌+◌, ◌<◌, List, [], Some, slice_get}
use Rattle.gtid_set.specs.Position.{IsCanonical, IsWithin}
use Rattle.source_feed.specs.GroupValue.{Position}

-- one set is a part of another, and not the whole of it
abbrev pub IsProperPart : Position → Position → Type 0
IsProperPart part whole = IsWithin part whole × ¬ IsWithin whole part

-- Groups of any form, by their numbers and positions: they are numbered 1, 2, .., and their positions
-- are merged, not empty, and each contains all earlier ones and more.
pub record AreInOrder {G : Type 0} (number_of : G → ℕ) (position_of : G → Position) (groups : List G) : Type 0 where
  pub numbered : (i : ℕ) (group : G) → slice_get groups i ≡ Some group → number_of group ≡ i + 1
  pub canonical : (i : ℕ) (group : G) → slice_get groups i ≡ Some group → IsCanonical (position_of group)
  pub from_empty : (i : ℕ) (group : G) → slice_get groups i ≡ Some group → IsProperPart [] (position_of group)
  pub growing : (i j : ℕ) (earlier later : G) → i < j → slice_get groups i ≡ Some earlier → slice_get groups j ≡ Some later
      → IsProperPart (position_of earlier) (position_of later)
