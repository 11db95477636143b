use Rattle.std.proofs.Common.{◌≡◌, ◌++◌, length}
use Rattle.proto_wire.specs.Frame.{frames_of}
use Rattle.check_said.proofs.messages.messages_of.Given as goal

-- the messages so far, and those that are left, are the feed's
abbrev pub invariant-loop-bytes : goal.invariant-loop-bytes
invariant-loop-bytes l = l.messages.items ++ l.frames.items ≡ (frames_of l.fn.feed).items

abbrev pub decreases-loop-bytes : goal.decreases-loop-bytes
decreases-loop-bytes l = length l.frames.items
