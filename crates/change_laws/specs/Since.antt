-- Streams that have gone on, and the keys that they have touched since (this profile).
use Rattle.std.specs.Prelude.{◌≡◌, ℕ, ◌≤◌, List, length, take, drop, Some, slice_get}
use Rattle.std.specs.List.{AllByRecursion}
use Rattle.pk_copy.specs.KeyValue.{KeyValue}
use Rattle.stream_core.specs.declared.step.Step.{Step}
use Rattle.stream_core.specs.declared.step.Step.TheVariants.{Offer, Advance}
use Rattle.source_feed.specs.Planned.{FeedValue}
use Rattle.source_feed.specs.Touches.{PreparedValue}
use Rattle.board_laws.specs.Meaning.{State, Meaning}
use Rattle.board_laws.specs.Runs.{IsTouchedIn}
use Rattle.board_laws.specs.Schedule.{Reply, IsRun}

-- ---- one stream

-- a stream has gone on: the groups that were applied still are, and no row was copied since
pub record HasGoneOn (old new : State) : Type 0 where
  pub plan : new.plan ≡ old.plan
  pub marks : new.marks ≡ old.marks
  pub applied : old.applied ≤ new.applied
  pub begins : take old.applied new.list ≡ take old.applied old.list

-- the groups that are applied behind the first so many
abbrev pub applied_behind : ℕ → State → List PreparedValue
applied_behind count state = drop count (take state.applied state.list)

-- ---- all streams of a board

-- they have gone on
pub record HaveGoneOn (old new : Meaning) : Type 0 where
  pub count : length new.streams ≡ length old.streams
  pub each : (s : ℕ) (before after : State) → slice_get old.streams s ≡ Some before → slice_get new.streams s ≡ Some after → HasGoneOn before after

-- stream s has touched the key since
pub record HasTouched (old new : Meaning) (key : KeyValue) (s : ℕ) : Type 0 where
  pub before : State
  pub stood : slice_get old.streams s ≡ Some before
  pub after : State
  pub stands : slice_get new.streams s ≡ Some after
  pub touched : IsTouchedIn (applied_behind before.applied after) key

-- one of them has
abbrev pub IsTouchedSince : Meaning → Meaning → KeyValue → Type 0
IsTouchedSince old new key = (s : ℕ) × HasTouched old new key s

-- ---- moves

-- a step by which a stream goes on: a group is read, or applied
abbrev pub GoesOnBy : Step → Type 0
GoesOnBy (Offer n) = Unit {0}
GoesOnBy Advance = Unit {0}
GoesOnBy step = ⊥

-- a board has moved by a list of such steps, each stream reading its own feed
pub record HasMoved (feeds : List FeedValue) (old new : Meaning) : Type 0 where
  pub steps : List (ℕ × Step)
  pub replies : List Reply
  pub onwards : AllByRecursion (λ (step : ℕ × Step). GoesOnBy step.1) steps
  pub run : IsRun feeds old steps replies new
