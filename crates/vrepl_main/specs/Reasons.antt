-- Why a command is refused, by what stands in its inputs (this profile).
use Rattle.std.specs.Prelude.{◌≡◌, ℕ, Option, None, Some, MatchOption, Result, Ok, Err, option_map}
use Rattle.filter_rule.specs.Faults as plans
use Rattle.source_feed.specs.FaultNumber as feed
use Rattle.source_feed.specs.declared.fault.FeedFault.{FeedFault}
use Rattle.vrepl_main.specs.declared.refusal.CommandRefusal.{CommandRefusal}
use Rattle.vrepl_main.specs.declared.refusal.CommandRefusal.TheVariants.{Memory, Workflow, NoStream, FeedCount, NotReached, Feed, BadHex, BadScript, BadDump, Changed, CannotRead, CannotWrite}

-- the workflow file has a fault; it has no stream of a number that is named; there aren't as many feeds as streams; a feed
-- that is to be hexadecimal text is none; a feed is refused, or a position; the feed of a stream doesn't reach its position;
-- a line of the script is no step; a line of a dump can't stand there
pub data Reason : Type 0 where
  bad_workflow : plans.Fault → Reason
  no_stream : Reason
  feed_count : Reason
  bad_hex : Reason
  bad_feed : FeedFault → Reason
  not_reached : ℕ → Reason
  bad_script : ℕ → Reason
  bad_dump : ℕ → Reason

-- what a refusal says of the inputs; nothing for want of memory, and where a file can't be read, replaced or written
abbrev pub reason_of : CommandRefusal → Option Reason
reason_of Memory = None
reason_of (Workflow fault) = option_map bad_workflow (plans.definition_fault_of fault)
reason_of NoStream = Some no_stream
reason_of FeedCount = Some feed_count
reason_of (Feed fault) = option_map bad_feed (feed.meant_of fault)
reason_of (NotReached stream) = Some (not_reached stream)
reason_of BadHex = Some bad_hex
reason_of (BadScript bad) = Some (bad_script bad)
reason_of (BadDump bad) = Some (bad_dump bad)
reason_of (Changed file) = None
reason_of (CannotRead file) = None
reason_of (CannotWrite file) = None

-- a refusal says just why there is nothing to be had of the inputs, unless memory ran out
abbrev pub RefusesInputs : {X : Type 0} → CommandRefusal → Result X Reason → Type 0
RefusesInputs Memory reading = Unit {0}
RefusesInputs refusal reading = MatchOption (reason_of refusal) ⊥ (λ reason. reading ≡ Err reason)

-- what a call gives of the inputs, seen by `view`
abbrev pub GivesOfInputs : {X Y : Type 0} → (X → Y) → Result X CommandRefusal → Result Y Reason → Type 0
GivesOfInputs view (Ok x) reading = reading ≡ Ok (view x)
GivesOfInputs view (Err refusal) reading = RefusesInputs refusal reading
