use Rattle.std.proofs.Common.{◌≡◌, take}
use Rattle.apply_core.proofs.cloning.copies_of_streams.Given as goal

-- the copies so far
abbrev pub invariant-loop-stream : goal.invariant-loop-stream
invariant-loop-stream l = l.copies.items ≡ take l.stream-index l.streams
