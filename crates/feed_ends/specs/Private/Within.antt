-- What the search for the last group needs.
use Rattle.std.specs.Prelude.{◌≡◌, ℕ, Some}
use Rattle.gtid_set.specs.Position.{IsWithin}
use Rattle.source_feed.specs.GroupValue.{Position}
use Rattle.source_feed.specs.Planned.{PlannedGroupValue, FeedValue}
use Rattle.source_feed.specs.Touches.{group_at}

-- the feed has a group of this number, and it lies within the position
pub record HasGroupWithin (feed : FeedValue) (position : Position) (number : ℕ) : Type 0 where
  pub group : PlannedGroupValue
  pub there : group_at feed number ≡ Some group
  pub within : IsWithin group.position position
