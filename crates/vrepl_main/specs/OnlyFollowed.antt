-- What `follow` makes where streams are named that are to run alone (this profile).
use Rattle.std.specs.Prelude.{◌≡◌, ℕ, nat_lt, Bool, not, List, length, Option, Some, None, Result, Ok, slice_get, map, true}
use Rattle.std.specs.List.{list_all}
use Rattle.list_laws.specs.Outcome.{◌>>=◌, refused_if}
use Rattle.filter_rule.specs.PlanValue.{PlanValue}
use Rattle.filter_rule.specs.Reading.{plans_of}
use Rattle.source_feed.specs.Planned.{FeedValue}
use Rattle.board_laws.specs.Meaning.{Meaning}
use Rattle.board_laws.specs.Sources.{ShowAll}
use Rattle.checkpoint_laws.specs.Written.{checkpoint_of}
use Rattle.apply_core.specs.Fresh.{fresh_board}
use Rattle.apply_core.specs.Resuming.{IsResumed}
use Rattle.apply_core.specs.Ended.{IsFedBoard, HaveEnded, AreAsBefore}
use Rattle.vrepl_main.specs.Followed.{FollowedValue, saved_asked}
use Rattle.vrepl_main.specs.JoinedRun.{IsOpenedAnd}
use Rattle.vrepl_choices.specs.UntilValue.{until_value}
use Rattle.vrepl_main.specs.Ending.{opened_until}
use Rattle.vrepl_main.specs.Opening.{OpenedValue, opened_with, said_plans}
use Rattle.vrepl_main.specs.Reasons.{Reason, no_stream}
use Rattle.vrepl_main.specs.Given.{given_value}
use Rattle.vrepl_main.specs.declared.named_inputs.FollowInputs.{FollowInputs}
use Rattle.std.specs.declared.sync.Arc.{Arc}
use Rattle.std.specs.declared.alloc.Global.{Global}
use Rattle.vrepl_main.specs.OpenedFeeds.{opened_over}
use Rattle.std.specs.Arc.{arc_value}

-- ---- what is opened

-- each of these streams has a plan
abbrev pub have_streams : List ℕ → List PlanValue → Bool
have_streams only plans = list_all (λ s. nat_lt s (length plans)) only

-- the plans of a workflow, which has these streams
abbrev pub named_plans : List ℕ → List ℕ → Result (List PlanValue) Reason
named_plans only workflow = said_plans (plans_of workflow) >>= λ plans. refused_if (not (have_streams only plans)) no_stream >>= λ _. Ok plans

-- the faults of the workflow file, then the streams that are named, then the number of feeds, then the feeds in order
abbrev pub opened_for : List ℕ → List ℕ → List (Option (List ℕ)) → Result OpenedValue Reason
opened_for only workflow feeds = named_plans only workflow >>= opened_with feeds

-- what the inputs give where the workflow has these streams, each feed up to the position that is given for it, or why they
-- are refused
abbrev pub only_asked : List ℕ → FollowInputs → Result OpenedValue Reason
only_asked only inputs = opened_until (map until_value inputs.until.now) (opened_for only inputs.workflow.now (map given_value inputs.feeds.now))

-- ---- the board

-- the board of the checkpoint, where there is one, or else the one of which nothing is read
abbrev pub IsStart : OpenedValue → Option (List ℕ) → Meaning → Type 0
IsStart given None start = start ≡ fresh_board given.plans
IsStart given (Some checkpoint) start = IsResumed given.feeds checkpoint start

-- these streams stand at their feeds' ends, and the others as they did; the board shows all its sources
pub record IsMovedOn (feeds : List FeedValue) (only : List ℕ) (start board : Meaning) : Type 0 where
  pub fed : IsFedBoard feeds board
  pub ended : HaveEnded only feeds board
  pub others : AreAsBefore only start board
  pub sources : ShowAll feeds board

-- ---- the checkpoint

-- the board on which these streams have moved on, and its checkpoint
pub record IsOnlyFollowedBy (given : OpenedValue) (only : List ℕ) (checkpoint : Option (List ℕ)) (followed : FollowedValue) : Type 0 where
  pub first : slice_get given.plans 0 ≡ Some followed.plan
  pub start : Meaning
  pub starts : IsStart given checkpoint start
  pub moved : IsMovedOn given.feeds only start followed.board
  pub is_checkpoint : followed.checkpoint ≡ checkpoint_of followed.board

-- there is something to follow, and this is the checkpoint
abbrev pub IsOnlyFollowed : Result OpenedValue Reason → List ℕ → Option (List ℕ) → FollowedValue → Type 0
IsOnlyFollowed reading only checkpoint followed = IsOpenedAnd reading (λ given. IsOnlyFollowedBy given only checkpoint followed)

-- ---- over plans and feeds as they are kept

-- each of these streams has a plan
abbrev pub AreThere : List ℕ → List (Arc PlanValue Global) → Type 0
AreThere only plans = have_streams only (map arc_value plans) ≡ true

-- the board on which these streams have moved on from that of the inputs' checkpoint, or from the beginning
abbrev pub HasMovedOn : List (Arc PlanValue Global) → List FeedValue → FollowInputs → List ℕ → Meaning → Type 0
HasMovedOn plans feeds inputs only board = (start : Meaning) × IsStart (opened_over plans feeds) (saved_asked inputs) start × IsMovedOn feeds only start board
