-- The refusal that the program gives for the fault of a layer (this profile).
use Rattle.filter_rule.specs.declared.fault.PlanFault.{PlanFault}
use Rattle.filter_rule.specs.declared.fault.PlanFault.TheVariants as plans
use Rattle.source_feed.specs.declared.fault.FeedFault.{FeedFault}
use Rattle.source_feed.specs.declared.fault.FeedFault.TheVariants as feed
use Rattle.feed_ends.specs.declared.fault.EndFault.{EndFault}
use Rattle.feed_ends.specs.declared.fault.EndFault.TheVariants as ends
use Rattle.dump.specs.declared.reading.DumpFault.{DumpFault}
use Rattle.dump.specs.declared.reading.DumpFault.TheVariants as dumps
use Rattle.vrepl_main.specs.declared.hex_text.HexFault.{HexFault}
use Rattle.vrepl_main.specs.declared.hex_text.HexFault.TheVariants as hex
use Rattle.vrepl_main.specs.declared.refusal.CommandRefusal.{CommandRefusal}
use Rattle.vrepl_main.specs.declared.refusal.CommandRefusal.TheVariants.{Memory, Workflow, NoStream, NotReached, Feed, BadHex, BadDump}

-- want of memory is one refusal, wherever it strikes
abbrev pub refusal_of_feed : FeedFault → CommandRefusal
refusal_of_feed feed.Memory = Memory
refusal_of_feed fault = Feed fault

-- a position that is given is refused as one of a feed's is
abbrev pub refusal_of_end : EndFault → CommandRefusal
refusal_of_end ends.Memory = Memory
refusal_of_end ends.NoStream = NoStream
refusal_of_end (ends.BadPosition cause) = Feed (feed.BadPosition cause)
refusal_of_end (ends.NotReached stream) = NotReached stream

abbrev pub refusal_of_hex : HexFault → CommandRefusal
refusal_of_hex hex.Memory = Memory
refusal_of_hex hex.BadHex = BadHex

abbrev pub refusal_of_workflow : PlanFault → CommandRefusal
refusal_of_workflow plans.Memory = Memory
refusal_of_workflow fault = Workflow fault

abbrev pub refusal_of_dump : DumpFault → CommandRefusal
refusal_of_dump dumps.Memory = Memory
refusal_of_dump (dumps.BadDump line) = BadDump line
