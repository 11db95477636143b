-- Up to which group a feed is compacted: by a position that is named, and by checkpoints that are to go on (this profile).
use Rattle.std.specs.Prelude.{◌≡◌, ℕ, List, length, map, Option, None, Some, Ok, slice_get}
use Rattle.std.specs.Global.{Vec}
use Rattle.filter_rule.specs.PlanValue.{PlanValue}
use Rattle.gtid_set.specs.Text.{position_of_text}
use Rattle.source_feed.specs.GroupValue.{Position}
use Rattle.source_feed.specs.Planned.{FeedValue}
use Rattle.source_feed.specs.Positions.{IsNumberAt}
use Rattle.checkpoint_laws.specs.Said.{IsCheckpoint}
use Rattle.checkpoint_laws.specs.Saved.{SavedStream}
use Rattle.compact_limit.specs.Least.{IsLeast}

-- ---- checkpoints

-- the bytes of each
abbrev pub bytes_in : List (Vec ℕ) → List (List ℕ)
bytes_in checkpoints = map (λ checkpoint. checkpoint.items) checkpoints

-- the bytes are a checkpoint of the plans, and say this of a stream
pub record SaysOf (plans : List PlanValue) (stream : ℕ) (checkpoint : List ℕ) (one : SavedStream) : Type 0 where
  pub saved : List SavedStream
  pub is : IsCheckpoint plans checkpoint saved
  pub there : slice_get saved stream ≡ Some one

-- a stream of a checkpoint stands at a group of the feed, or before the first one
abbrev pub StandsAt : List PlanValue → FeedValue → ℕ → List ℕ → ℕ → Type 0
StandsAt plans feed stream checkpoint number = (one : SavedStream) × SaysOf plans stream checkpoint one × IsNumberAt feed one.position number

-- ---- the group

-- the group that is named: of the position which a text means, 0 of the empty one; without a text the last group
abbrev pub IsNamed : FeedValue → Option (List ℕ) → ℕ → Type 0
IsNamed feed None number = number ≡ length feed.groups
IsNamed feed (Some text) number = (position : Position) × (position_of_text text ≡ Ok position) × IsNumberAt feed position number

-- the group up to which a feed is compacted: the least of the one that is named and of those at which the stream of a checkpoint
-- stands; one that stands before the first group doesn't count
abbrev pub IsLimit : List PlanValue → FeedValue → ℕ → Option (List ℕ) → List (List ℕ) → ℕ → Type 0
IsLimit plans feed stream at checkpoints number = (named : ℕ) × IsNamed feed at named × IsLeast (StandsAt plans feed stream) named checkpoints number
