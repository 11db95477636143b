-- The board that plans, feeds and the bytes of a checkpoint make, and why there is none (this profile).
use Rattle.std.specs.Prelude.{◌≡◌, ◌≢◌, ℕ, List, length, Result, Ok, Err}
use Rattle.filter_rule.specs.PlanValue.{PlanValue}
use Rattle.source_feed.specs.Planned.{FeedValue}
use Rattle.board_laws.specs.Lawful.{IsLawful}
use Rattle.board_laws.specs.Meaning.{Meaning}
use Rattle.board_laws.specs.Extended.{extended_board, MayExtend}
use Rattle.board_laws.specs.GoingOn.{MeetsUnsound, StopsAt}
use Rattle.board_laws.specs.Compatible.{plans_of_board}
use Rattle.checkpoint_laws.specs.declared.fault.ResumeFault.{ResumeFault}
use Rattle.checkpoint_laws.specs.declared.fault.ResumeFault.TheVariants.{FeedCount, WrongPlan, CheckpointBad, PositionUnknown, Unsound, CheckpointDiffers, OwnedByOther, Memory}
use Rattle.checkpoint_laws.specs.declared.version.Version.{Version}
use Rattle.checkpoint_laws.specs.Added.{AreOfSameHistories}
use Rattle.checkpoint_laws.specs.Saved.{SavedStream, saved_of}
use Rattle.checkpoint_laws.specs.Written.{checkpoint_in, checkpoint_of}
use Rattle.checkpoint_laws.specs.Said.{IsCheckpoint}
use Rattle.checkpoint_laws.specs.Resumed.{IsResumedBoard}
use Rattle.checkpoint_laws.specs.Laws.{AreWithin, restarted, BeginWithApplied}
use Rattle.checkpoint_laws.specs.Refused.{plans_of_feeds, IsRefusedCheckpoint}
use Rattle.apply_core.specs.Feeds.{AreFed}

-- the bytes are a checkpoint; the board is the one that it makes with the feeds, and has just what it says
pub record IsResumed (feeds : List FeedValue) (bytes : List ℕ) (board : Meaning) : Type 0 where
  pub saved : List SavedStream
  pub said : IsCheckpoint (plans_of_feeds feeds) bytes saved
  pub made : IsResumedBoard feeds saved board
  pub same : saved_of board ≡ saved

-- no board is resumed: 119 exactly where there aren't as many feeds as plans, else 111 exactly where two plans differ
-- in their tables or a feed wasn't opened under its plan, and else by what stands in the bytes and the feeds
abbrev pub IsRefusedResume : List PlanValue → List FeedValue → List ℕ → ResumeFault → Type 0
IsRefusedResume plans feeds bytes FeedCount = length feeds ≢ length plans
IsRefusedResume plans feeds bytes WrongPlan = (length feeds ≡ length plans) × ¬ AreFed plans feeds
IsRefusedResume plans feeds bytes fault = AreFed plans feeds × IsRefusedCheckpoint feeds bytes fault

-- ---- a board that is saved and resumed

-- the bytes are the checkpoint, of either version, of a board under these plans whose rows, keys and positions are within
-- the limits, and the groups of its streams' feeds begin with the applied ones
pub record IsSavedOf (plans : List PlanValue) (feeds : List FeedValue) (bytes : List ℕ) (board : Meaning) : Type 0 where
  pub lawful : IsLawful board
  pub within : AreWithin board
  pub planned : plans ≡ plans_of_board board
  pub begins : BeginWithApplied feeds board
  pub version : Version
  pub written : bytes ≡ checkpoint_in version board

-- the answer is this board, or there is want of memory
abbrev pub GivesBoard : Meaning → Result Meaning ResumeFault → Type 0
GivesBoard board (Ok other) = other ≡ board
GivesBoard board (Err fault) = fault ≡ Memory

-- ---- a board that is saved, and resumed with more tables

-- The bytes are the checkpoint of a board whose rows, keys and positions are within the limits; these plans are those of
-- the board with tables appended, and the feeds, which were opened under them, have the groups that are applied.
pub record IsSavedBefore (plans : List PlanValue) (feeds : List FeedValue) (bytes : List ℕ) (board : Meaning) : Type 0 where
  pub lawful : IsLawful board
  pub within : AreWithin board
  pub fed : AreFed plans feeds
  pub histories : AreOfSameHistories feeds board
  pub written : bytes ≡ checkpoint_of board

-- refused for an unsound group among those that are applied, the first one of the least such stream, and else for want
-- of memory alone
abbrev pub IsRefusedOfMore : List FeedValue → Meaning → ResumeFault → Type 0
IsRefusedOfMore feeds board FeedCount = ⊥
IsRefusedOfMore feeds board WrongPlan = ⊥
IsRefusedOfMore feeds board CheckpointBad = ⊥
IsRefusedOfMore feeds board (PositionUnknown s) = ⊥
IsRefusedOfMore feeds board (Unsound fault) = (s : ℕ) × StopsAt (λ feed state. MeetsUnsound feed state fault) feeds board.streams s
IsRefusedOfMore feeds board (CheckpointDiffers s key) = ⊥
IsRefusedOfMore feeds board (OwnedByOther key owner) = ⊥
IsRefusedOfMore feeds board Memory = Unit {0}

-- the answer is the board after a restart of each stream to which the tables are added, or it is refused so
abbrev pub GivesMore : List FeedValue → Meaning → Result Meaning ResumeFault → Type 0
GivesMore feeds board (Ok other) = MayExtend feeds board × (other ≡ extended_board feeds (restarted board))
GivesMore feeds board (Err fault) = IsRefusedOfMore feeds board fault
