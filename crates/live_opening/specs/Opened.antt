-- The board from which a live session starts, and why there is none (this profile).
use Rattle.std.specs.Prelude.{◌≡◌, ◌≢◌, ◌⊎◌, ℕ, ◌<◌, List, length, Option, None, Some, IfSome, Ok, slice_get}
use Rattle.std.specs.Arc.{arc_value}
use Rattle.filter_rule.specs.Faults as plans
use Rattle.filter_rule.specs.PlanValue.{PlanValue}
use Rattle.filter_rule.specs.Reading.{IsSomeText, plans_of}
use Rattle.filter_rule.specs.declared.fault.PlanFault.{PlanFault}
use Rattle.filter_rule.specs.declared.fault.PlanFault.TheVariants as workflows
use Rattle.source_feed.specs.FaultNumber as feed
use Rattle.source_feed.specs.declared.fault.FeedFault.{FeedFault}
use Rattle.source_feed.specs.Growing.{IsRefusedFor, IsSettledFront, fault_so_far}
use Rattle.source_feed.specs.Planned.{FeedValue, groups_under}
use Rattle.board_laws.specs.Meaning.{Meaning}
use Rattle.checkpoint_laws.specs.Faults as resume
use Rattle.checkpoint_laws.specs.declared.fault.ResumeFault.{ResumeFault}
use Rattle.checkpoint_laws.specs.declared.fault.ResumeFault.TheVariants as resumes
use Rattle.checkpoint_core.specs.Fault.{HasParts}
use Rattle.apply_core.specs.Ended.{AllHaveEnded, IsFedBoard, IsRowsUnion}
use Rattle.apply_core.specs.Resuming.{IsResumed, IsRefusedResume}
use Rattle.apply_core.specs.RunRefused.{IsLowest, IsRefusedRun, WantsToGoOn, number_of_run}
use Rattle.apply_core.specs.Shown.{all_rows}
use Rattle.apply_core.specs.declared.run_refusal.RunRefusal.{RunRefusal}
use Rattle.apply_core.specs.declared.run_refusal.RunRefusal.TheVariants as runs
use Rattle.live_core.specs.Live.{LiveValue}
use Rattle.live_opening.specs.declared.unopened.Unopened.{Unopened}
use Rattle.live_opening.specs.declared.unopened.Unopened.TheVariants.{Workflow, FeedCount, Feed, Checkpoint, Stream}

abbrev pub number_of_unopened : Unopened → ℕ
number_of_unopened (Workflow fault) = plans.number_of fault
number_of_unopened FeedCount = 119
number_of_unopened (Feed fault) = feed.number_of fault
number_of_unopened (Checkpoint plan fault) = resume.number_of fault
number_of_unopened (Stream plan refusal) = number_of_run refusal

-- ---- feeds

-- A feed under its plan has the groups of the bytes that are taken, those that have come up to the last message behind which
-- no transaction is open. Nothing that has come is at fault.
pub record IsBegun (plan : PlanValue) (come : List ℕ) (feed : FeedValue) (bytes : List ℕ) : Type 0 where
  pub under : feed.plan ≡ plan
  pub groups : groups_under bytes plan ≡ Ok feed.groups
  pub rest : List ℕ
  pub front : IsSettledFront come bytes rest
  pub sound : fault_so_far plan come ≡ None

-- there is a feed for each plan, of what has come of it
pub record AreBegun (plans : List PlanValue) (come : List (List ℕ)) (feeds : List FeedValue) (all : List (List ℕ)) : Type 0 where
  pub planned : length feeds ≡ length plans
  pub came : length feeds ≡ length come
  pub known : length all ≡ length feeds
  pub each : (s : ℕ) (plan : PlanValue) (one : List ℕ) (feed : FeedValue) (bytes : List ℕ) → slice_get plans s ≡ Some plan → slice_get come s ≡ Some one → slice_get feeds s ≡ Some feed → slice_get all s ≡ Some bytes
      → IsBegun plan one feed bytes

-- ---- the board

-- the checkpoint, where there is one, is resumed: the streams go on from that board, and else from the beginning
abbrev pub IsTakenUp : List FeedValue → Option (List ℕ) → Type 0
IsTakenUp feeds None = Unit {0}
IsTakenUp feeds (Some checkpoint) = (start : Meaning) × IsResumed feeds checkpoint start

-- Over the feeds of a workflow, of what has come of them, the checkpoint is taken up, and then all streams have come to their
-- ends: the target has just the rows that the feeds keep. Nothing is told.
pub record IsOpened (workflow : List ℕ) (come : List (List ℕ)) (checkpoint : Option (List ℕ)) (live : LiveValue) : Type 0 where
  pub plans : List PlanValue
  pub said : plans_of workflow ≡ Ok plans
  pub begun : AreBegun plans come live.fed.feeds live.bytes
  pub taken_up : IsTakenUp live.fed.feeds checkpoint
  pub ended : AllHaveEnded live.fed.feeds live.fed.board
  pub rows : IsRowsUnion live.fed.feeds (all_rows live.fed.board.rows)
  pub untold : live.told ≡ None

-- ---- refusals

-- the workflow file is refused; memory is wanted only for a text in UTF-8 that isn't empty
pub record IsUnread (workflow : List ℕ) (fault : PlanFault) : Type 0 where
  pub fails : plans.Fails fault (plans_of workflow)
  pub memory : fault ≡ workflows.Memory → IsSomeText workflow

-- There are as many feeds as plans, and of one of them, and of none before it, what has come is at fault, want of memory aside.
pub record IsUnbegun (plans : List PlanValue) (come : List (List ℕ)) (fault : FeedFault) : Type 0 where
  pub count : length come ≡ length plans
  pub s : ℕ
  pub plan : PlanValue
  pub planned : slice_get plans s ≡ Some plan
  pub one : List ℕ
  pub came : slice_get come s ≡ Some one
  pub why : IfSome (feed.meant_of fault) (IsRefusedFor plan one)
  pub before : (t : ℕ) (earlier : PlanValue) (other : List ℕ) → t < s → slice_get plans t ≡ Some earlier → slice_get come t ≡ Some other → fault_so_far earlier other ≡ None

-- the checkpoint isn't resumed over these feeds; memory is wanted only for bytes that have the parts of one
pub record IsNotResumed (plans : List PlanValue) (feeds : List FeedValue) (checkpoint : List ℕ) (fault : ResumeFault) : Type 0 where
  pub refused : IsRefusedResume plans feeds checkpoint fault
  pub parts : fault ≡ resumes.Memory → HasParts checkpoint (length plans)

-- there is a checkpoint, and it isn't resumed
abbrev pub IsNotTakenUp : List PlanValue → List FeedValue → Option (List ℕ) → ResumeFault → Type 0
IsNotTakenUp plans feeds None fault = ⊥
IsNotTakenUp plans feeds (Some checkpoint) fault = IsNotResumed plans feeds checkpoint fault

-- memory is wanted on a board of these feeds, for a stream's next step
pub record IsWanting (feeds : List FeedValue) : Type 0 where
  pub board : Meaning
  pub fed : IsFedBoard feeds board
  pub s : ℕ
  pub wants : WantsToGoOn feeds board s

-- The checkpoint, where there is one, is resumed, and the run from there is refused: of the least stream that can be refused.
-- Memory is wanted for a step, or for the board where there is no checkpoint.
pub record IsNotRun (plans : List PlanValue) (feeds : List FeedValue) (checkpoint : Option (List ℕ)) (refusal : RunRefusal) : Type 0 where
  pub taken_up : IsTakenUp feeds checkpoint
  pub refused : IsRefusedRun plans feeds refusal
  pub lowest : IsLowest feeds refusal
  pub memory : refusal ≡ runs.Memory → (checkpoint ≡ None) ⊎ IsWanting feeds

-- it is so over the feeds of these plans, of what has come of them, in which nothing is at fault; the line names the tables of
-- the first plan
pub record IsSoOver (plans : List PlanValue) (come : List (List ℕ)) (plan : PlanValue) (Is : List FeedValue → Type 0) : Type 0 where
  pub first : slice_get plans 0 ≡ Some plan
  pub feeds : List FeedValue
  pub all : List (List ℕ)
  pub begun : AreBegun plans come feeds all
  pub so : Is feeds

-- the workflow has these plans
abbrev pub Has : List ℕ → (List PlanValue → Type 0) → Type 0
Has workflow P = (plans : List PlanValue) × (plans_of workflow ≡ Ok plans) × P plans

-- Why there is no board to start from: the workflow file; or the number of feeds; or what has come of one, the first; or the
-- checkpoint; or the streams' run. Each is found only where nothing before it is, and so is want of memory, which is a fault of
-- what was looked at then.
abbrev pub IsUnopened : List ℕ → List (List ℕ) → Option (List ℕ) → Unopened → Type 0
IsUnopened workflow come checkpoint (Workflow fault) = IsUnread workflow fault
IsUnopened workflow come checkpoint FeedCount = Has workflow (λ plans. length come ≢ length plans)
IsUnopened workflow come checkpoint (Feed fault) = Has workflow (λ plans. IsUnbegun plans come fault)
IsUnopened workflow come checkpoint (Checkpoint plan fault) = Has workflow (λ plans. IsSoOver plans come (arc_value plan) (λ feeds. IsNotTakenUp plans feeds checkpoint fault))
IsUnopened workflow come checkpoint (Stream plan refusal) = Has workflow (λ plans. IsSoOver plans come (arc_value plan) (λ feeds. IsNotRun plans feeds checkpoint refusal))
