-- Why a run of all streams to their feeds' ends is refused (this profile).
use Rattle.std.specs.Prelude.{◌≡◌, ◌≢◌, ℕ, ◌<◌, List, length, Option, Some, None, IfSome, Err, slice_get}
use Rattle.filter_rule.specs.PlanValue.{PlanValue}
use Rattle.pk_copy.specs.KeyValue.{KeyValue}
use Rattle.source_feed.specs.FaultNumber as feed
use Rattle.source_feed.specs.declared.fault.FeedFault.{FeedFault}
use Rattle.source_feed.specs.Planned.{PlannedGroupValue, FeedValue}
use Rattle.source_feed.specs.SoundGroups.{sound_groups}
use Rattle.source_feed.specs.Touches.{prepared}
use Rattle.stream_core.specs.declared.step.Step.{Step}
use Rattle.board_laws.specs.Lawful.{standing_of}
use Rattle.board_laws.specs.Meaning.{State, Meaning}
use Rattle.board_laws.specs.Runs.{IsTouchedIn}
use Rattle.board_laws.specs.Schedule.{WantsMemory}
use Rattle.apply_core.specs.Courses.{LeadsOn}
use Rattle.apply_core.specs.Feeds.{AreFed}
use Rattle.apply_core.specs.declared.run_refusal.RunRefusal.{RunRefusal}
use Rattle.apply_core.specs.declared.run_refusal.RunRefusal.TheVariants.{FeedCount, WrongPlan, Unsound, OwnedByOther, Memory}

abbrev pub number_of_run : RunRefusal → ℕ
number_of_run FeedCount = 119
number_of_run WrongPlan = 111
number_of_run (Unsound stream fault) = feed.number_of fault
number_of_run (OwnedByOther stream key owner) = 71
number_of_run Memory = 72

-- the fault of the first group of a feed that isn't sound
pub record IsFirstUnsoundGroup (feed : FeedValue) (fault : FeedFault) : Type 0 where
  pub group : PlannedGroupValue
  pub place : slice_get feed.groups (length (sound_groups feed)) ≡ Some group
  pub refused : prepared feed.plan group ≡ Err fault

-- the same of the feed of stream s
pub record HasUnsound (feeds : List FeedValue) (s : ℕ) (fault : FeedFault) : Type 0 where
  pub feed : FeedValue
  pub fed : slice_get feeds s ≡ Some feed
  pub first : IsFirstUnsoundGroup feed fault

-- the feed of stream s touches the key before its first unsound group
pub record TouchesKey (feeds : List FeedValue) (s : ℕ) (key : KeyValue) : Type 0 where
  pub feed : FeedValue
  pub fed : slice_get feeds s ≡ Some feed
  pub touched : IsTouchedIn (sound_groups feed) key

-- two streams, whose feeds both touch the key
abbrev pub BothTouch : List FeedValue → ℕ → ℕ → KeyValue → Type 0
BothTouch feeds s t key = (t ≢ s) × TouchesKey feeds s key × TouchesKey feeds t key

-- what stands where a stream's step ends a run: a group of its feed isn't sound; the key is touched by its feed and
-- by that of the row's owner, another stream; or memory is wanted
abbrev pub EndsRun : List FeedValue → RunRefusal → Type 0
EndsRun feeds FeedCount = ⊥
EndsRun feeds WrongPlan = ⊥
EndsRun feeds (Unsound stream fault) = HasUnsound feeds stream fault
EndsRun feeds (OwnedByOther stream key owner) = BothTouch feeds stream owner key
EndsRun feeds Memory = Unit {0}

-- A run is refused 119 exactly where there aren't as many feeds as plans, else 111 exactly where two plans differ in
-- their tables or a feed wasn't opened under its plan, and else where a step of a stream ends it.
abbrev pub IsRefusedRun : List PlanValue → List FeedValue → RunRefusal → Type 0
IsRefusedRun plans feeds FeedCount = length feeds ≢ length plans
IsRefusedRun plans feeds WrongPlan = (length feeds ≡ length plans) × ¬ AreFed plans feeds
IsRefusedRun plans feeds refusal = AreFed plans feeds × EndsRun feeds refusal

-- memory is wanted for a step of stream s on its course; where that is an offer, the feed's next group is sound
pub record WantsToGoOn (feeds : List FeedValue) (board : Meaning) (s : ℕ) : Type 0 where
  pub feed : FeedValue
  pub fed : slice_get feeds s ≡ Some feed
  pub state : State
  pub stream : slice_get board.streams s ≡ Some state
  pub chunks_before : ℕ
  pub chunks_then : ℕ
  pub step : Step
  pub leads : LeadsOn (standing_of state) (length feed.groups) chunks_before chunks_then step
  pub wants : WantsMemory feed board s step

-- the board that a refused run leaves, where memory ended it: some stream's next step wants it
abbrev pub StopsWanting : List FeedValue → Meaning → RunRefusal → Type 0
StopsWanting feeds board Memory = (s : ℕ) × WantsToGoOn feeds board s
StopsWanting feeds board refusal = Unit {0}

-- the stream that is refused, where it is one of them
abbrev pub refused_stream : RunRefusal → Option ℕ
refused_stream (Unsound stream fault) = Some stream
refused_stream (OwnedByOther stream key owner) = Some stream
refused_stream refusal = None

-- if a stream is refused it is this one
abbrev pub IsOfStream : ℕ → RunRefusal → Type 0
IsOfStream s refusal = IfSome (refused_stream refusal) (λ t. t ≡ s)

-- every lower stream can come to its feed's end: all groups of its feed are sound
abbrev pub IsLowest : List FeedValue → RunRefusal → Type 0
IsLowest feeds refusal =
    IfSome (refused_stream refusal) (λ s. (t : ℕ) (feed : FeedValue) → t < s → slice_get feeds t ≡ Some feed → length (sound_groups feed) ≡ length feed.groups)
