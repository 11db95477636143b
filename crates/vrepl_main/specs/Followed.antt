-- What `follow` makes of a workflow with its feeds, from a checkpoint or from nothing, and why it refuses (this profile).
use Rattle.std.specs.Prelude.{◌≡◌, ℕ, List, Option, Some, None, Result, Ok, slice_get, map}
use Rattle.std.specs.Arc.{arc_value}
use Rattle.filter_rule.specs.PlanValue.{PlanValue}
use Rattle.source_feed.specs.Planned.{FeedValue}
use Rattle.board_laws.specs.Meaning.{Meaning}
use Rattle.checkpoint_laws.specs.Written.{checkpoint_of}
use Rattle.checkpoint_laws.specs.declared.fault.ResumeFault.{ResumeFault}
use Rattle.apply_core.specs.Resuming.{IsResumed}
use Rattle.apply_core.specs.RunRefused.{EndsRun}
use Rattle.apply_core.specs.declared.run_refusal.RunRefusal.{RunRefusal}
use Rattle.vrepl_main.specs.declared.following.Unfollowed.{Unfollowed}
use Rattle.vrepl_main.specs.declared.following.Unfollowed.TheVariants.{Given, Checkpoint, Stream}
use Rattle.vrepl_main.specs.JoinedRun.{IsOpenedAnd}
use Rattle.vrepl_choices.specs.UntilValue.{until_value}
use Rattle.vrepl_main.specs.Ending.{opened_until}
use Rattle.vrepl_main.specs.Opening.{OpenedValue, opened_bytes}
use Rattle.vrepl_main.specs.Reasons.{Reason, RefusesInputs}
use Rattle.vrepl_main.specs.Refusals.{refusal_line}
use Rattle.vrepl_main.specs.RefusedText.{refused_text}
use Rattle.vrepl_main.specs.ResumedRun.{IsRefusedOver}
use Rattle.vrepl_main.specs.ResumedText.{resume_line}
use Rattle.vrepl_main.specs.Running.{IsAtFeedsEnds, IsRefusedStream, as_step}
use Rattle.std.specs.Option.{option_map}
use Rattle.vrepl_main.specs.Given.{given_value}
use Rattle.vrepl_main.specs.declared.named_inputs.FollowInputs.{FollowInputs}
use Rattle.std.specs.declared.sync.Arc.{Arc}
use Rattle.std.specs.declared.alloc.Global.{Global}
use Rattle.vrepl_main.specs.OpenedFeeds.{opened_over}

-- the workflow with its feeds, each up to the position that is given for it, or why they are refused
abbrev pub follow_asked : FollowInputs → Result OpenedValue Reason
follow_asked inputs = opened_until (map until_value inputs.until.now) (opened_bytes inputs.workflow.now (map given_value inputs.feeds.now))

-- the checkpoint to go on from, where there is one
abbrev pub saved_asked : FollowInputs → Option (List ℕ)
saved_asked inputs = option_map (λ bytes. bytes.now) inputs.checkpoint

-- ---- the board

-- the checkpoint, where there is one, is resumed: the streams go on from that board, and else from the beginning
abbrev pub IsTakenUp : OpenedValue → Option (List ℕ) → Type 0
IsTakenUp given None = Unit {0}
IsTakenUp given (Some checkpoint) = (start : Meaning) × IsResumed given.feeds checkpoint start

-- ---- the checkpoint

-- a board and the bytes of its checkpoint, with the plan whose tables its rows are of
pub record FollowedValue : Type 0 where
  pub plan : PlanValue
  pub checkpoint : List ℕ
  pub board : Meaning

-- the board at the feeds' ends, which shows all its sources, and its checkpoint
pub record IsFollowedBy (given : OpenedValue) (checkpoint : Option (List ℕ)) (followed : FollowedValue) : Type 0 where
  pub first : slice_get given.plans 0 ≡ Some followed.plan
  pub taken_up : IsTakenUp given checkpoint
  pub ends : IsAtFeedsEnds given.feeds followed.board
  pub is_checkpoint : followed.checkpoint ≡ checkpoint_of followed.board

-- there is something to follow, and this is the checkpoint
abbrev pub IsFollowed : Result OpenedValue Reason → Option (List ℕ) → FollowedValue → Type 0
IsFollowed reading checkpoint followed = IsOpenedAnd reading (λ given. IsFollowedBy given checkpoint followed)

-- ---- refusals

-- there is a checkpoint, and it isn't resumed
abbrev pub IsNotTakenUp : OpenedValue → Option (List ℕ) → PlanValue → ResumeFault → Type 0
IsNotTakenUp given None plan fault = ⊥
IsNotTakenUp given (Some checkpoint) plan fault = IsRefusedOver given checkpoint plan fault

-- the checkpoint, where there is one, is resumed, and the run from there is refused
pub record IsNotFollowed (given : OpenedValue) (checkpoint : Option (List ℕ)) (plan : PlanValue) (refusal : RunRefusal) : Type 0 where
  pub taken_up : IsTakenUp given checkpoint
  pub refused : IsRefusedStream plan refusal given

-- a refusal says just why the workflow or the feeds are refused, or else why the checkpoint is, or else why a stream's run
-- is, unless memory ran out
abbrev pub RefusesFollow : Unfollowed → Result OpenedValue Reason → Option (List ℕ) → Type 0
RefusesFollow (Given refusal) reading checkpoint = RefusesInputs refusal reading
RefusesFollow (Checkpoint plan fault) reading checkpoint = IsOpenedAnd reading (λ given. IsNotTakenUp given checkpoint (arc_value plan) fault)
RefusesFollow (Stream plan refusal) reading checkpoint = IsOpenedAnd reading (λ given. IsNotFollowed given checkpoint (arc_value plan) refusal)

-- the line of a refusal
abbrev pub follow_refusal_line : Unfollowed → List ℕ
follow_refusal_line (Given refusal) = refusal_line refusal
follow_refusal_line (Checkpoint plan fault) = resume_line (arc_value plan).tables fault
follow_refusal_line (Stream plan refusal) = refused_text (arc_value plan).tables (as_step refusal)

-- ---- over plans and feeds as they are kept

-- the checkpoint of the inputs, where there is one, is resumed
abbrev pub HasTakenUp : List (Arc PlanValue Global) → List FeedValue → FollowInputs → Type 0
HasTakenUp plans feeds inputs = IsTakenUp (opened_over plans feeds) (saved_asked inputs)

-- why there is no board to answer with
abbrev pub HasNotFollowed : List (Arc PlanValue Global) → List FeedValue → FollowInputs → Unfollowed → Type 0
HasNotFollowed plans feeds inputs refusal = RefusesFollow refusal (Ok (opened_over plans feeds)) (saved_asked inputs)

-- a run over the feeds is refused; the line names tables of the plan
abbrev pub IsEndedRun : Arc PlanValue Global → List FeedValue → Unfollowed → Type 0
IsEndedRun plan feeds refusal = (ended : RunRefusal) × (refusal ≡ Stream plan ended) × EndsRun feeds ended
