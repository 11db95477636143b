use Rattle.std.proofs.Common.{◌≡◌, length}
use Rattle.checkpoint_places.specs.Stands.{stream_at, streams_at, all_of, unless_fault}
use Rattle.checkpoint_places.proofs.ReadLaws.{behind}
use Rattle.checkpoint_places.proofs.reading.streams_at.Given as goal

-- the streams so far, and those of the messages that are left, are all
abbrev pub invariant-loop-streams : goal.invariant-loop-streams
invariant-loop-streams l = streams_at l.fn.bytes ≡ unless_fault l.frames.fault (behind l.streams.items (all_of stream_at l.frames.items))

abbrev pub decreases-loop-streams : goal.decreases-loop-streams
decreases-loop-streams l = length l.frames.items
