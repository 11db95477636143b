use Rattle.std.proofs.Common.{◌≡◌, length}
use Rattle.source_feed.specs.EventList.{events_of_feed}
use Rattle.log_transcribe.specs.Transcript.{source_value}
use Rattle.log_transcribe.specs.Said.{reading_said}
use Rattle.log_transcribe.specs.Private.Sees.{messages_said}
use Rattle.log_transcribe.proofs.said.see_feed.Given as goal

-- with the messages that are still to come the tables are what they are with all of them
abbrev pub invariant-loop-more : goal.invariant-loop-more
invariant-loop-more l = messages_said (source_value l.source) l.frames l.stages.items ≡ reading_said (source_value l.source) (events_of_feed l.feed) l.fn.stages.items

abbrev pub decreases-loop-more : goal.decreases-loop-more
decreases-loop-more l = length l.frames.items
