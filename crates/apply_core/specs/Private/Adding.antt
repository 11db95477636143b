-- Streams to which tables are added, one after another.
use Rattle.std.specs.Prelude.{◌≡◌, ℕ, List, take, Some, Ok, Err, IsOk, slice_get}
use Rattle.filter_rule.specs.Extending.{IsExtended}
use Rattle.source_feed.specs.declared.fault.FeedFault.{FeedFault}
use Rattle.source_feed.specs.declared.fault.FeedFault.TheVariants as feed
use Rattle.source_feed.specs.Planned.{FeedValue}
use Rattle.source_feed.specs.Prepared.{IsSameOn}
use Rattle.source_feed.specs.SoundGroups.{sound_groups}
use Rattle.source_feed.specs.Touches.{PreparedValue, prepared_at}
use Rattle.board_laws.specs.Meaning.{State}
use Rattle.board_laws.specs.declared.add_fault.AddFault.{AddFault}
use Rattle.board_laws.specs.declared.add_fault.AddFault.TheVariants.{HistoriesDiffer, Unsound, Memory}
use Rattle.board_laws.specs.Extended.{extended_state, extended_states}
use Rattle.board_laws.specs.GoingOn.{GoesOnTo, GoesOn, MeetsUnsound, IsOfOtherHistory, GoOnBefore, StopsAt}
use Rattle.apply_core.specs.Adding.{MayWantMemory}

-- ---- one group

-- why a group isn't prepared, as a fault
abbrev pub fault_of_feed : FeedFault → AddFault
fault_of_feed feed.Memory = Memory
fault_of_feed fault = Unsound fault

-- the group of a number is sound, and is the old one but for touches of further tables
pub record IsGroupAgain (tables : ℕ) (feed : FeedValue) (old : PreparedValue) (number : ℕ) (new : PreparedValue) : Type 0 where
  pub prepared_is : prepared_at feed number ≡ Ok new
  pub same : IsSameOn tables old new

-- it isn't: it isn't sound, with this fault, or another one; or memory is wanting for a sound one
abbrev pub IsNotAgain : ℕ → FeedValue → PreparedValue → ℕ → ℕ → AddFault → Type 0
IsNotAgain tables feed old number s (HistoriesDiffer t) = (t ≡ s) × ((new : PreparedValue) × (prepared_at feed number ≡ Ok new) × ¬ IsSameOn tables old new)
IsNotAgain tables feed old number s (Unsound fault) = prepared_at feed number ≡ Err fault
IsNotAgain tables feed old number s Memory = IsOk (prepared_at feed number)
IsNotAgain tables feed old number s fault = ⊥

-- ---- one stream

-- so many groups of a feed are sound and go on from a stream, and these are they
pub record AreAgain (feed : FeedValue) (state : State) (number : ℕ) (groups : List PreparedValue) : Type 0 where
  pub go_on : GoesOnTo feed state number
  pub are : groups ≡ take number (sound_groups feed)

-- the feed of stream s doesn't go on from it; or memory is wanting, where it does so far
abbrev pub IsStoppedBy : ℕ → FeedValue → State → AddFault → Type 0
IsStoppedBy s feed state (HistoriesDiffer t) = (t ≡ s) × IsOfOtherHistory feed state
IsStoppedBy s feed state (Unsound fault) = MeetsUnsound feed state fault
IsStoppedBy s feed state Memory = MayWantMemory feed state
IsStoppedBy s feed state fault = ⊥

-- the feed goes on from the stream, and this is the stream with more tables
pub record IsExtendedBy (feed : FeedValue) (state new : State) : Type 0 where
  pub goes_on : GoesOn feed state
  pub is : new ≡ extended_state feed state

-- ---- the streams

-- each feed's plan is its stream's with tables appended
abbrev pub FeedsExtend : List FeedValue → List State → Type 0
FeedsExtend feeds states = (s : ℕ) (feed : FeedValue) (state : State) → slice_get feeds s ≡ Some feed → slice_get states s ≡ Some state → IsExtended state.plan feed.plan

-- the first n streams with more tables
pub record AreExtendedUpTo (feeds : List FeedValue) (states : List State) (n : ℕ) (new : List State) : Type 0 where
  pub before : GoOnBefore feeds states n
  pub are : new ≡ take n (extended_states feeds states)

-- one of the streams is the first whose feed doesn't go on; or memory is wanting for it, where it does so far
abbrev pub AreStopped : List FeedValue → List State → AddFault → Type 0
AreStopped feeds states (HistoriesDiffer s) = StopsAt IsOfOtherHistory feeds states s
AreStopped feeds states (Unsound fault) = (s : ℕ) × StopsAt (λ feed state. MeetsUnsound feed state fault) feeds states s
AreStopped feeds states Memory = (s : ℕ) × StopsAt MayWantMemory feeds states s
AreStopped feeds states fault = ⊥
