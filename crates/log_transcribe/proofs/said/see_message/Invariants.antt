use Rattle.std.proofs.Common.{◌≡◌, length}
use Rattle.vevent.specs.Response.{response_of}
use Rattle.log_transcribe.specs.Transcript.{source_value}
use Rattle.log_transcribe.specs.Private.Sees.{message_said}
use Rattle.log_transcribe.proofs.said.see_message.Given as goal

-- with the events that are still to come the tables are what they are with all of them
abbrev pub invariant-loop-more : goal.invariant-loop-more
invariant-loop-more l = message_said (source_value l.source) l.events l.stages.items ≡ message_said (source_value l.source) (response_of l.message) l.fn.stages.items

abbrev pub decreases-loop-more : goal.decreases-loop-more
decreases-loop-more l = length l.events.items
