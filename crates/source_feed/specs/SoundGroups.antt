-- The groups of a feed before the first one that isn't sound, and the first so many of them (this profile).
use Rattle.std.specs.Prelude.{◌≡◌, ℕ, ◌<◌, ◌≤◌, List, length, map, take, Some, Err, slice_get}
use Rattle.std.specs.Result.{ok_prefix}
use Rattle.source_feed.specs.declared.fault.FeedFault.{FeedFault}
use Rattle.source_feed.specs.Planned.{FeedValue}
use Rattle.source_feed.specs.Touches.{PreparedValue, prepared}

-- the groups of a feed before the first one that isn't sound, with their touches
abbrev pub sound_groups : FeedValue → List PreparedValue
sound_groups feed = ok_prefix (map (prepared feed.plan) feed.groups)

-- the first group of a feed that isn't sound has this fault
abbrev pub IsFirstFault : FeedValue → FeedFault → Type 0
IsFirstFault feed fault = slice_get (map (prepared feed.plan) feed.groups) (length (sound_groups feed)) ≡ Some (Err fault)

-- so many groups of a feed are sound, and these are they
pub record AreFirst (feed : FeedValue) (number : ℕ) (groups : List PreparedValue) : Type 0 where
  pub sound : number ≤ length (sound_groups feed)
  pub are : groups ≡ take number (sound_groups feed)

-- one of so many groups of a feed isn't sound, and the first such one has this fault
pub record StopsBefore (feed : FeedValue) (number : ℕ) (fault : FeedFault) : Type 0 where
  pub inside : length (sound_groups feed) < number
  pub first : IsFirstFault feed fault
