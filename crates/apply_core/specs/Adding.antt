-- Tables added to a board: which plans and feeds are taken, and why they aren't (this profile).
use Rattle.std.specs.Prelude.{◌≡◌, ◌≢◌, ◌⊎◌, ℕ, ◌<◌, ◌≤◌, List, length}
use Rattle.filter_rule.specs.PlanValue.{PlanValue}
use Rattle.source_feed.specs.Planned.{FeedValue}
use Rattle.source_feed.specs.SoundGroups.{sound_groups}
use Rattle.board_laws.specs.Meaning.{State, Meaning}
use Rattle.board_laws.specs.declared.add_fault.AddFault.{AddFault}
use Rattle.board_laws.specs.declared.add_fault.AddFault.TheVariants.{FeedCount, PlanNotExtended, WrongPlan, HistoriesDiffer, Unsound, Memory}
use Rattle.board_laws.specs.Extended.{AreExtended}
use Rattle.board_laws.specs.GoingOn.{GoesOnTo, MeetsUnsound, IsOfOtherHistory, StopsAt}
use Rattle.board_laws.specs.Compatible.{plans_of_board}
use Rattle.apply_core.specs.Feeds.{AreFed}

-- the plans are those of the board with tables appended, all over the same tables, and the feeds were opened under them
pub record AreTaken (plans : List PlanValue) (feeds : List FeedValue) (board : Meaning) : Type 0 where
  pub extended : AreExtended (plans_of_board board) plans
  pub fed : AreFed plans feeds

-- memory may be wanted for a stream: its feed has as many groups as are applied, the first of them go on from it, and
-- these are all, or the next one is sound
pub record MayWantMemory (feed : FeedValue) (state : State) : Type 0 where
  pub enough : state.applied ≤ length feed.groups
  pub number : ℕ
  pub before : GoesOnTo feed state number
  pub next : (state.applied ≤ number) ⊎ (number < length (sound_groups feed))

-- No tables are added: 119 exactly where there aren't as many feeds as plans, else 122 exactly where there aren't as
-- many plans as streams or one isn't its stream's with tables appended, else 111 exactly where two plans differ in their
-- tables or a feed wasn't opened under its plan; and else by the first stream whose feed doesn't go on from what is
-- applied, or for want of memory, where no stream has failed by then.
abbrev pub IsRefusedAdd : List PlanValue → List FeedValue → Meaning → AddFault → Type 0
IsRefusedAdd plans feeds board FeedCount = length feeds ≢ length plans
IsRefusedAdd plans feeds board PlanNotExtended = (length feeds ≡ length plans) × ¬ AreExtended (plans_of_board board) plans
IsRefusedAdd plans feeds board WrongPlan = (length feeds ≡ length plans) × AreExtended (plans_of_board board) plans × ¬ AreFed plans feeds
IsRefusedAdd plans feeds board (HistoriesDiffer s) = AreTaken plans feeds board × StopsAt IsOfOtherHistory feeds board.streams s
IsRefusedAdd plans feeds board (Unsound fault) = AreTaken plans feeds board × ((s : ℕ) × StopsAt (λ feed state. MeetsUnsound feed state fault) feeds board.streams s)
IsRefusedAdd plans feeds board Memory = AreTaken plans feeds board × ((s : ℕ) × StopsAt MayWantMemory feeds board.streams s)
