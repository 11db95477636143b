use Rattle.std.proofs.Common.{◌≡◌, ◌+◌, length}
use Rattle.proto_wire.specs.Frame.{frames_of}
use Rattle.source_feed.proofs.pieces.front_of.Given as goal

-- so many messages are read, and the others are still to come
abbrev pub invariant-loop-messages : goal.invariant-loop-messages
invariant-loop-messages l = (l.messages + length l.frames.items ≡ length (frames_of l.fn.bytes).items) × (l.frames.fault ≡ (frames_of l.fn.bytes).fault)

abbrev pub decreases-loop-messages : goal.decreases-loop-messages
decreases-loop-messages l = length l.frames.items
