-- Laws of the group up to which a feed is compacted, as statements: each is the contract of a function without a body.
use Rattle.std.specs.Prelude.{◌≡◌, ℕ, List, Option}
use Rattle.std.specs.List.{AllByRecursion}
use Rattle.filter_rule.specs.PlanValue.{PlanValue}
use Rattle.filter_rule.specs.WellFormed.{IsPlan}
use Rattle.source_feed.specs.Planned.{FeedValue, IsFeed}
use Rattle.compact_limit.specs.Limit.{IsLimit}
use Rattle.compact_limit.specs.Refused.{IsRefusedLimit}
use Rattle.compact_limit.specs.declared.fault.LimitFault.{LimitFault}

-- there is one such group at most
abbrev pub LimitsAreOne : Type 0
LimitsAreOne =
    (plans : List PlanValue) (feed : FeedValue) (stream : ℕ) (at : Option (List ℕ)) (checkpoints : List (List ℕ)) (one other : ℕ) → AllByRecursion IsPlan plans → IsFeed feed
    → IsLimit plans feed stream at checkpoints one → IsLimit plans feed stream at checkpoints other → one ≡ other

-- where there is one, nothing is refused
abbrev pub LimitsArentRefused : Type 0
LimitsArentRefused =
    (plans : List PlanValue) (feed : FeedValue) (stream : ℕ) (at : Option (List ℕ)) (checkpoints : List (List ℕ)) (number : ℕ) (fault : LimitFault) → AllByRecursion IsPlan plans → IsFeed feed
    → IsLimit plans feed stream at checkpoints number → ¬ IsRefusedLimit plans feed stream at checkpoints fault
