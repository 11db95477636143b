-- A workflow with its feeds, and with a script, as they are kept, and its feeds tried each by itself.
use Rattle.std.specs.Prelude.{◌≡◌, ℕ, List, length, map, Option, None, Some, Result, Ok, Err, slice_get}
use Rattle.std.specs.Arc.{arc_value}
use Rattle.filter_rule.specs.PlanValue.{PlanValue}
use Rattle.source_feed.specs.Planned.{FeedValue}
use Rattle.vrepl_main.specs.Opening.{OpenedValue, opened_feed, opened_bytes}
use Rattle.vrepl_main.specs.Reasons.{GivesOfInputs, Reason}
use Rattle.vrepl_main.specs.ScriptRun.{ScriptGiven}
use Rattle.vrepl_main.specs.declared.opened.Opened.{Opened}
use Rattle.vrepl_main.specs.declared.scripted.Scripted.{Scripted}
use Rattle.source_feed.specs.declared.fault.FeedFault.{FeedFault}
use Rattle.vrepl_main.specs.RefusalOf.{refusal_of_feed}
use Rattle.vrepl_main.specs.declared.refusal.CommandRefusal.{CommandRefusal}
use Rattle.vrepl_main.specs.declared.refusal.CommandRefusal.TheVariants.{BadHex}
use Rattle.std.specs.declared.sync.Arc.{Arc}
use Rattle.std.specs.declared.alloc.Global.{Global}
use Rattle.vrepl_main.specs.Given.{given_value}
use Rattle.vrepl_main.specs.declared.given.GivenFeed.{GivenFeed}
use Rattle.filter_rule.specs.WellFormed.{ArePlans}

-- plans with their feeds
abbrev pub opened_over : List (Arc PlanValue Global) → List FeedValue → OpenedValue
opened_over plans feeds = record { plans = map arc_value plans; feeds = feeds }

abbrev pub opened_value : Opened → OpenedValue
opened_value opened = opened_over opened.plans.items opened.feeds.items

-- there are 1 to 64 plans over the same tables
abbrev pub HasPlans : Opened → Type 0
HasPlans opened = ArePlans (map arc_value opened.plans.items)

-- the first of them
abbrev pub IsFirstOf : Opened → Arc PlanValue Global → Type 0
IsFirstOf opened plan = slice_get (map arc_value opened.plans.items) 0 ≡ Some (arc_value plan)

-- a workflow's file with the bytes of its feeds, or why they are refused
abbrev pub opened_given : List ℕ → List GivenFeed → Result OpenedValue Reason
opened_given workflow given = opened_bytes workflow (map given_value given)

abbrev pub scripted_value : Scripted → ScriptGiven
scripted_value scripted = record { opened = opened_value scripted.opened; steps = scripted.steps.items }

-- what came of opening a feed, none where it should have been hexadecimal text, as the feed or its refusal
abbrev pub as_opened : Result (Option FeedValue) FeedFault → Result FeedValue CommandRefusal
as_opened (Ok None) = Err BadHex
as_opened (Ok (Some feed)) = Ok feed
as_opened (Err fault) = Err (refusal_of_feed fault)

-- what opening the feed at a place under its plan gives
abbrev pub IsTried : List PlanValue → List (Option (List ℕ)) → ℕ → Result (Option FeedValue) FeedFault → Type 0
IsTried plans given i one = (plan : PlanValue) (bytes : Option (List ℕ)) → slice_get plans i ≡ Some plan → slice_get given i ≡ Some bytes → GivesOfInputs (λ feed. feed) (as_opened one) (opened_feed plan bytes)

-- the same of the plans and the bytes as they are kept
abbrev pub IsTriedAt : List (Arc PlanValue Global) → List GivenFeed → ℕ → Result (Option FeedValue) FeedFault → Type 0
IsTriedAt plans given i one = IsTried (map arc_value plans) (map given_value given) i one

-- each feed was tried by itself
pub record AreTried (plans : List PlanValue) (given : List (Option (List ℕ))) (tried : List (Result (Option FeedValue) FeedFault)) : Type 0 where
  pub many : length tried ≡ length plans
  pub each : (i : ℕ) (one : Result (Option FeedValue) FeedFault) → slice_get tried i ≡ Some one → IsTried plans given i one
