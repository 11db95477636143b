-- Which group of a feed has a position, and how many groups a position is behind (this profile).
use Rattle.std.specs.Prelude.{◌≡◌, ◌⊎◌, ℕ, [], Some}
use Rattle.source_feed.specs.GroupValue.{Position}
use Rattle.source_feed.specs.Planned.{PlannedGroupValue, FeedValue}
use Rattle.source_feed.specs.Touches.{group_at}

-- the feed has a group of this number and position
pub record HasGroupAt (feed : FeedValue) (position : Position) (number : ℕ) : Type 0 where
  pub group : PlannedGroupValue
  pub there : group_at feed number ≡ Some group
  pub at : group.position ≡ position

-- how many groups of a feed a position is behind: none at the empty set, else those up to the group that has it
abbrev pub IsNumberAt : FeedValue → Position → ℕ → Type 0
IsNumberAt feed position number = ((position ≡ []) × (number ≡ 0)) ⊎ HasGroupAt feed position number
