-- Feeds that go on from what a stream has applied, though they were opened under more tables, and where a feed
-- doesn't (this profile).
use Rattle.std.specs.Prelude.{◌≡◌, ◌⊎◌, ℕ, ◌<◌, ◌≤◌, List, length, Some, slice_get}
use Rattle.source_feed.specs.declared.fault.FeedFault.{FeedFault}
use Rattle.source_feed.specs.Planned.{FeedValue}
use Rattle.source_feed.specs.Prepared.{IsSameOn}
use Rattle.source_feed.specs.SoundGroups.{sound_groups, IsFirstFault}
use Rattle.source_feed.specs.Touches.{PreparedValue}
use Rattle.board_laws.specs.Meaning.{State}

-- the first so many groups of a feed are sound, and are those of the read list but for touches of further tables
pub record GoesOnTo (feed : FeedValue) (state : State) (number : ℕ) : Type 0 where
  pub sound : number ≤ length (sound_groups feed)
  pub same : (i : ℕ) (old new : PreparedValue) → i < number → slice_get state.list i ≡ Some old → slice_get (sound_groups feed) i ≡ Some new
      → IsSameOn (length state.plan.tables) old new

-- a feed goes on from a stream: it has the groups that are applied
abbrev pub GoesOn : FeedValue → State → Type 0
GoesOn feed state = GoesOnTo feed state state.applied

-- ---- a feed that doesn't go on

-- among as many groups as are applied stands one that isn't sound, with this fault, and those before it are as applied
pub record MeetsUnsound (feed : FeedValue) (state : State) (fault : FeedFault) : Type 0 where
  pub enough : state.applied ≤ length feed.groups
  pub inside : length (sound_groups feed) < state.applied
  pub before : GoesOnTo feed state (length (sound_groups feed))
  pub first : IsFirstFault feed fault

-- among them stands a sound one that isn't the same, and those before it are as applied
pub record MeetsOther (feed : FeedValue) (state : State) : Type 0 where
  pub enough : state.applied ≤ length feed.groups
  pub number : ℕ
  pub inside : number < state.applied
  pub before : GoesOnTo feed state number
  pub old : PreparedValue
  pub here : slice_get state.list number ≡ Some old
  pub new : PreparedValue
  pub there : slice_get (sound_groups feed) number ≡ Some new
  pub other : ¬ IsSameOn (length state.plan.tables) old new

-- a feed is of another history than a stream: it has fewer groups than are applied, or another one
abbrev pub IsOfOtherHistory : FeedValue → State → Type 0
IsOfOtherHistory feed state = (length feed.groups < state.applied) ⊎ MeetsOther feed state

-- ---- feeds and streams

-- the feeds of all streams before this one go on
abbrev pub GoOnBefore : List FeedValue → List State → ℕ → Type 0
GoOnBefore feeds states s =
    (t : ℕ) (feed : FeedValue) (state : State) → t < s → slice_get feeds t ≡ Some feed → slice_get states t ≡ Some state → GoesOn feed state

-- stream s is the first whose feed doesn't go on, for this cause
pub record StopsAt (cause : FeedValue → State → Type 0) (feeds : List FeedValue) (states : List State) (s : ℕ) : Type 0 where
  pub feed : FeedValue
  pub state : State
  pub fed : slice_get feeds s ≡ Some feed
  pub here : slice_get states s ≡ Some state
  pub stops : cause feed state
  pub before : GoOnBefore feeds states s
