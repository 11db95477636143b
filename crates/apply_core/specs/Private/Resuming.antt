-- The streams of a checkpoint, put together with their feeds step by step.
use Rattle.std.specs.Prelude.{◌≡◌, ◌≢◌, ℕ, List, length, Some, slice_get}
use Rattle.std.specs.List.{AllByRecursion}
use Rattle.filter_rule.specs.PlanValue.{PlanValue}
use Rattle.pk_copy.specs.KeyOrder.{key_cmp}
use Rattle.target_tables.specs.Rising.{IsRising}
use Rattle.source_feed.specs.declared.fault.FeedFault.{FeedFault}
use Rattle.source_feed.specs.declared.fault.FeedFault.TheVariants as feed
use Rattle.source_feed.specs.Planned.{FeedValue}
use Rattle.source_feed.specs.SoundGroups.{IsFirstFault}
use Rattle.board_laws.specs.Meaning.{State}
use Rattle.board_laws.specs.RefusedJoin.{IsFirstClash}
use Rattle.checkpoint_laws.specs.declared.fault.ResumeFault.{ResumeFault}
use Rattle.checkpoint_laws.specs.declared.fault.ResumeFault.TheVariants.{FeedCount, WrongPlan, Unsound, CheckpointDiffers, OwnedByOther, Memory}
use Rattle.checkpoint_laws.specs.Saved.{SavedStream}
use Rattle.checkpoint_laws.specs.Said.{IsCheckpoint, IsKeyed}
use Rattle.checkpoint_laws.specs.Resumed.{AgreesWith}
use Rattle.checkpoint_laws.specs.Refused.{plans_of_feeds, IsFirstOff, IsSoundUpTo, IsLeastDifference}
use Rattle.apply_core.specs.Feeds.{AreFed}

-- a fact of three values at each place of three lists
abbrev pub AtEachOfThree : {A B C : Type 0} → (A → B → C → Type 0) → List A → List B → List C → Type 0
AtEachOfThree {A} {B} {C} P xs ys zs = (s : ℕ) (x : A) (y : B) (z : C) → slice_get xs s ≡ Some x → slice_get ys s ≡ Some y → slice_get zs s ≡ Some z → P x y z

-- what is said of the streams of these feeds can be said of them: it stands in some checkpoint
pub record AreSaid (feeds : List FeedValue) (saved : List SavedStream) : Type 0 where
  pub bytes : List ℕ
  pub is : IsCheckpoint (plans_of_feeds feeds) bytes saved

-- why groups of a feed aren't prepared, as a refusal
abbrev pub refusal_of_feed : FeedFault → ResumeFault
refusal_of_feed feed.Memory = Memory
refusal_of_feed fault = Unsound fault

-- a stream doesn't stand where a checkpoint says: a group up to its position isn't sound, the first such one with this
-- fault; or want of memory
abbrev pub IsUnsoundAt : FeedValue → SavedStream → ResumeFault → Type 0
IsUnsoundAt feed one (Unsound fault) = (¬ IsSoundUpTo feed one) × IsFirstFault feed fault
IsUnsoundAt feed one Memory = Unit {0}
IsUnsoundAt feed one fault = ⊥

-- the rows of a checkpoint aren't those of the streams; or want of memory
abbrev pub AreOthers : List SavedStream → List State → ResumeFault → Type 0
AreOthers saved states (CheckpointDiffers s key) = (first : IsFirstOff AgreesWith saved states s) × IsLeastDifference first.one first.other key
AreOthers saved states Memory = Unit {0}
AreOthers saved states fault = ⊥

-- two streams have a row at one key; or want of memory
abbrev pub HaveClash : List State → ResumeFault → Type 0
HaveClash states (OwnedByOther key owner) = IsFirstClash states key owner
HaveClash states Memory = Unit {0}
HaveClash states fault = ⊥

-- the rows of every stream rise
abbrev pub AllRise : List SavedStream → Type 0
AllRise saved = (s : ℕ) (one : SavedStream) → slice_get saved s ≡ Some one → IsRising key_cmp one.rows

-- each row that is said of a stream stands at its own key of the stream's plan
abbrev pub HasKeysOf : SavedStream → State → Type 0
HasKeysOf saved state = AllByRecursion (IsKeyed state.plan) saved.rows

-- plans and feeds aren't taken: 119 exactly where there aren't as many feeds as plans, else 111
abbrev pub IsUnfed : List PlanValue → List FeedValue → ResumeFault → Type 0
IsUnfed plans feeds FeedCount = length feeds ≢ length plans
IsUnfed plans feeds WrongPlan = (length feeds ≡ length plans) × ¬ AreFed plans feeds
IsUnfed plans feeds fault = ⊥
