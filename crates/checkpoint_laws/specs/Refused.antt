-- Why a checkpoint isn't resumed over feeds: the first of five tests that fails (this profile).
use Rattle.std.specs.Prelude.{◌≡◌, ◌≢◌, ℕ, ◌<◌, ◌≤◌, List, length, map, Some, slice_get}
use Rattle.std.specs.declared.cmp.Ordering.TheVariants.{Less}
use Rattle.filter_rule.specs.PlanValue.{PlanValue}
use Rattle.pk_copy.specs.KeyOrder.{key_cmp}
use Rattle.pk_copy.specs.KeyValue.{KeyValue}
use Rattle.source_feed.specs.declared.fault.FeedFault.{FeedFault}
use Rattle.source_feed.specs.Image.{row_in}
use Rattle.source_feed.specs.Planned.{FeedValue}
use Rattle.source_feed.specs.Positions.{IsNumberAt}
use Rattle.source_feed.specs.SoundGroups.{sound_groups, IsFirstFault}
use Rattle.board_laws.specs.Cut.{cut_of}
use Rattle.board_laws.specs.Meaning.{State}
use Rattle.board_laws.specs.RefusedJoin.{IsFirstClash}
use Rattle.checkpoint_laws.specs.declared.fault.ResumeFault.{ResumeFault}
use Rattle.checkpoint_laws.specs.declared.fault.ResumeFault.TheVariants.{FeedCount, WrongPlan, CheckpointBad, PositionUnknown, Unsound, CheckpointDiffers, OwnedByOther, Memory}
use Rattle.checkpoint_laws.specs.Saved.{SavedStream}
use Rattle.checkpoint_laws.specs.Said.{IsCheckpoint}
use Rattle.checkpoint_laws.specs.Resumed.{IsKnown, AreResumed, AgreesWith, AtEachPlace}

-- the plans under which feeds were opened
abbrev pub plans_of_feeds : List FeedValue → List PlanValue
plans_of_feeds feeds = map (λ (feed : FeedValue). feed.plan) feeds

-- stream s is the first at which the values of two lists don't have the fact
pub record IsFirstOff {A B : Type 0} (P : A → B → Type 0) (xs : List A) (ys : List B) (s : ℕ) : Type 0 where
  pub one : A
  pub other : B
  pub here : slice_get xs s ≡ Some one
  pub there : slice_get ys s ≡ Some other
  pub fails : ¬ P one other
  pub before : (t : ℕ) (x : A) (y : B) → t < s → slice_get xs t ≡ Some x → slice_get ys t ≡ Some y → P x y

-- the groups of a feed up to the position are sound
abbrev pub IsSoundUpTo : FeedValue → SavedStream → Type 0
IsSoundUpTo feed saved = (number : ℕ) → IsNumberAt feed saved.position number → number ≤ length (sound_groups feed)

-- all positions are known; of one stream, and of none before it, a group up to the position isn't sound, the first
-- such one with this fault
pub record AreUnsound (feeds : List FeedValue) (saved : List SavedStream) (fault : FeedFault) : Type 0 where
  pub known : AtEachPlace IsKnown feeds saved
  pub stream : ℕ
  pub first : IsFirstOff IsSoundUpTo feeds saved stream
  pub first_fault : IsFirstFault first.one fault

-- the least key at which the rows of a checkpoint aren't those of a stream's cut
pub record IsLeastDifference (saved : SavedStream) (state : State) (key : KeyValue) : Type 0 where
  pub differs : row_in saved.rows key ≢ cut_of state key
  pub none_less : (k : KeyValue) → key_cmp k key ≡ Less → row_in saved.rows k ≡ cut_of state k

-- all streams stand where the checkpoint says; of one of them, and of none before it, its rows aren't those of the
-- feed, at this key and none below it
pub record AreDifferent (feeds : List FeedValue) (saved : List SavedStream) (s : ℕ) (key : KeyValue) : Type 0 where
  pub states : List State
  pub resumed : AreResumed feeds saved states
  pub first : IsFirstOff AgreesWith saved states s
  pub least : IsLeastDifference first.one first.other key

-- all rows are those of the feeds, and two streams have a row at one key
pub record AreClashing (feeds : List FeedValue) (saved : List SavedStream) (key : KeyValue) (owner : ℕ) : Type 0 where
  pub states : List State
  pub resumed : AreResumed feeds saved states
  pub agree : AtEachPlace AgreesWith saved states
  pub clash : IsFirstClash states key owner

-- what a checkpoint says is refused; memory is wanted only where all positions are known
abbrev pub IsRefusedSaved : List FeedValue → List SavedStream → ResumeFault → Type 0
IsRefusedSaved feeds saved FeedCount = ⊥
IsRefusedSaved feeds saved WrongPlan = ⊥
IsRefusedSaved feeds saved CheckpointBad = ⊥
IsRefusedSaved feeds saved (PositionUnknown s) = IsFirstOff IsKnown feeds saved s
IsRefusedSaved feeds saved (Unsound fault) = AreUnsound feeds saved fault
IsRefusedSaved feeds saved (CheckpointDiffers s key) = AreDifferent feeds saved s key
IsRefusedSaved feeds saved (OwnedByOther key owner) = AreClashing feeds saved key owner
IsRefusedSaved feeds saved Memory = AtEachPlace IsKnown feeds saved

-- what stands in bytes that aren't resumed over feeds which were opened under their plans: they are no checkpoint,
-- or what they say is refused
abbrev pub IsRefusedCheckpoint : List FeedValue → List ℕ → ResumeFault → Type 0
IsRefusedCheckpoint feeds bytes CheckpointBad = (saved : List SavedStream) → ¬ IsCheckpoint (plans_of_feeds feeds) bytes saved
IsRefusedCheckpoint feeds bytes Memory = Unit {0}
IsRefusedCheckpoint feeds bytes fault = (saved : List SavedStream) × IsCheckpoint (plans_of_feeds feeds) bytes saved × IsRefusedSaved feeds saved fault
