-- What `compact` is asked for: the feed of a stream of a workflow, or why there is none (this profile).
use Rattle.std.specs.Prelude.{ℕ, List, Option, None, Some, Result, Ok, Err, slice_get}
use Rattle.list_laws.specs.Outcome.{◌>>=◌}
use Rattle.filter_rule.specs.PlanValue.{PlanValue}
use Rattle.filter_rule.specs.Reading.{plans_of}
use Rattle.source_feed.specs.Planned.{groups_under, FeedValue}
use Rattle.vrepl_main.specs.HexText.{feed_bytes}
use Rattle.vrepl_main.specs.Opening.{feed_under, said_plans}
use Rattle.vrepl_main.specs.Reasons.{Reason, no_stream, bad_hex}
use Rattle.vrepl_compact.specs.declared.inputs.CompactInputs.{CompactInputs}

-- the plans of a workflow, the bytes of the feed of one of its streams, and this feed under the stream's plan
pub record AskedFeed : Type 0 where
  pub plans : List PlanValue
  pub bytes : List ℕ
  pub feed : FeedValue

-- a workflow without the stream
abbrev pub plan_or_none : Option PlanValue → Result PlanValue Reason
plan_or_none None = Err no_stream
plan_or_none (Some plan) = Ok plan

-- a feed that should have been hexadecimal text
abbrev pub bytes_or_none : Option (List ℕ) → Result (List ℕ) Reason
bytes_or_none None = Err bad_hex
bytes_or_none (Some bytes) = Ok bytes

-- the feed of these bytes, under the plan of its stream
abbrev pub asked_of : List PlanValue → PlanValue → List ℕ → Result AskedFeed Reason
asked_of plans plan bytes = feed_under plan (groups_under bytes plan) >>= λ feed. Ok (record { plans = plans; bytes = bytes; feed = feed })

-- the same of bytes as they are given
abbrev pub asked_as : List PlanValue → Option (List ℕ) → PlanValue → Result AskedFeed Reason
asked_as plans given plan = bytes_or_none given >>= asked_of plans plan

-- the same under the plan of the stream that is asked for, which is one of these
abbrev pub asked_in : CompactInputs → List PlanValue → Option (List ℕ) → Result AskedFeed Reason
asked_in inputs plans given = plan_or_none (slice_get plans inputs.stream) >>= asked_as plans given

-- the feed of the stream that is asked for, under these plans
abbrev pub asked_under : CompactInputs → List PlanValue → Result AskedFeed Reason
asked_under inputs plans = asked_in inputs plans (feed_bytes inputs.feed_form inputs.feed.items)

-- the feed that is to be compacted. The faults are those of the workflow; then that it has no such stream; then that the feed
-- should have been hexadecimal text; then the feed's own.
abbrev pub compact_asked : CompactInputs → Result AskedFeed Reason
compact_asked inputs = said_plans (plans_of inputs.workflow.items) >>= asked_under inputs
