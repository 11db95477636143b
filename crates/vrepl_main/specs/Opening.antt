-- A workflow with its feeds, as a command opens them (this profile).
use Rattle.std.specs.Prelude.{ℕ, ◌==◌, not, length, List, [], ◌∷◌, map, Option, None, Some, Result, Ok, Err}
use Rattle.list_laws.specs.Outcome.{◌>>=◌, refused_if}
use Rattle.filter_rule.specs.Faults as plans
use Rattle.filter_rule.specs.PlanValue.{PlanValue}
use Rattle.filter_rule.specs.Reading.{plans_of}
use Rattle.source_feed.specs.Planned.{PlannedGroupValue, FeedValue, groups_under}
use Rattle.source_feed.specs.declared.fault.FeedFault.{FeedFault}
use Rattle.vrepl_choices.specs.declared.feed_form.FeedForm.{FeedForm}
use Rattle.vrepl_main.specs.Reasons.{Reason, bad_workflow, feed_count, bad_hex, bad_feed}
use Rattle.vrepl_main.specs.HexText.{feed_bytes}

-- the plans of a workflow, one a stream, and each stream's feed
pub record OpenedValue : Type 0 where
  pub plans : List PlanValue
  pub feeds : List FeedValue

-- ---- one feed

abbrev pub feed_under : PlanValue → Result (List PlannedGroupValue) FeedFault → Result FeedValue Reason
feed_under plan (Ok groups) = Ok (record { plan = plan; groups = groups })
feed_under plan (Err fault) = Err (bad_feed fault)

-- a feed under its plan: refused where it should have been hexadecimal text, and then by its own fault
abbrev pub opened_feed : PlanValue → Option (List ℕ) → Result FeedValue Reason
opened_feed plan None = Err bad_hex
opened_feed plan (Some bytes) = feed_under plan (groups_under bytes plan)

-- ---- all feeds

-- a feed in front of further ones
abbrev pub opened_then : FeedValue → Result (List FeedValue) Reason → Result (List FeedValue) Reason
opened_then first others = others >>= λ feeds. Ok (first ∷ feeds)

-- each feed under its plan, one after another, up to the first fault
abbrev pub opened_feeds : List PlanValue → List (Option (List ℕ)) → Result (List FeedValue) Reason
opened_feeds [] feeds = Ok []
opened_feeds (plan ∷ plans) [] = Ok []
opened_feeds (plan ∷ plans) (feed ∷ feeds) = opened_feed plan feed >>= λ first. opened_then first (opened_feeds plans feeds)

-- ---- a workflow

abbrev pub said_plans : Result (List PlanValue) plans.Fault → Result (List PlanValue) Reason
said_plans (Ok plans) = Ok plans
said_plans (Err fault) = Err (bad_workflow fault)

-- plans with the bytes of their feeds, as many as there are plans
abbrev pub opened_with : List (Option (List ℕ)) → List PlanValue → Result OpenedValue Reason
opened_with feeds plans =
    refused_if (not (length plans == length feeds)) feed_count >>= λ _. opened_feeds plans feeds >>= λ opened. Ok (record { plans = plans; feeds = opened })

-- the faults of the workflow file, then the number of feeds, then the feeds in order
abbrev pub opened_bytes : List ℕ → List (Option (List ℕ)) → Result OpenedValue Reason
opened_bytes workflow feeds = said_plans (plans_of workflow) >>= opened_with feeds

-- the same of feeds that are given in this form
abbrev pub opened : FeedForm → List ℕ → List (List ℕ) → Result OpenedValue Reason
opened form workflow feeds = opened_bytes workflow (map (feed_bytes form) feeds)
