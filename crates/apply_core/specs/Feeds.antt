-- Plans and their feeds, as every call takes them that reads feeds, and why they aren't taken (this profile).
use Rattle.std.specs.Prelude.{◌≡◌, ◌≢◌, ℕ, List, length, map, Some, Err, slice_get}
use Rattle.filter_rule.specs.PlanValue.{PlanValue}
use Rattle.source_feed.specs.Planned.{FeedValue, IsFeed}
use Rattle.board_laws.specs.declared.refusal.Refusal.{Refusal}
use Rattle.board_laws.specs.declared.refusal.Refusal.TheVariants.{NoStream, WrongPlan, FeedCount, Memory}
use Rattle.board_laws.specs.declared.step_refusal.StepRefusal.TheVariants.{Refused}
use Rattle.board_laws.specs.Schedule.{Reply}
use Rattle.apply_core.specs.Fresh.{HaveSameTables}

-- every feed is whole
abbrev pub AreWholeFeeds : List FeedValue → Type 0
AreWholeFeeds feeds = (s : ℕ) (feed : FeedValue) → slice_get feeds s ≡ Some feed → IsFeed feed

-- there is a feed for each plan, which was opened under that plan, and all plans have the same tables
pub record AreFed (plans : List PlanValue) (feeds : List FeedValue) : Type 0 where
  pub tables : HaveSameTables plans
  pub opened : map (λ (feed : FeedValue). feed.plan) feeds ≡ plans

-- plans and feeds aren't taken: 119 exactly where there aren't as many feeds as plans, else 111 exactly where two
-- plans differ in their tables or a feed wasn't opened under its plan, and else for want of memory alone
abbrev pub IsRefusedInput : List PlanValue → List FeedValue → Refusal → Type 0
IsRefusedInput plans feeds FeedCount = length feeds ≢ length plans
IsRefusedInput plans feeds WrongPlan = (length feeds ≡ length plans) × ¬ AreFed plans feeds
IsRefusedInput plans feeds Memory = AreFed plans feeds
IsRefusedInput plans feeds refusal = ⊥

-- ---- a step of a stream that has its feed

-- it isn't refused for the want of a stream or of a feed, nor by another plan
abbrev pub IsOfOwnFeed : Reply → Type 0
IsOfOwnFeed (Err (Refused NoStream)) = ⊥
IsOfOwnFeed (Err (Refused FeedCount)) = ⊥
IsOfOwnFeed (Err (Refused WrongPlan)) = ⊥
IsOfOwnFeed reply = Unit {0}
